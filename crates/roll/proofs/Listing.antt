-- What a list of triples holds, and how a write changes that.
use Rattle.std.proofs.Common.{◌≡◌, ℕ, zero, suc, ◌+◌, ◌<◌, ◌≤◌, Bool, true, false, ◌&&◌, ◌||◌, List, [], ◌∷◌, ◌++◌, length, get_or, take, drop, set, filter, if◌then◌else◌, is_some, Some, None, Option, sym, refl, ap, ◌∙◌, subst, ⊎_elim, arith}
use Rattle.std.proofs.lemmas.List.{get_or-take, length-set, length-take-le, set-append_left, take-append-drop, take_at, take_more, take-set}
use Rattle.std.proofs.lemmas.Bool.{cases_eq, false≢true, or_right, true≢false}
use denote.Param.Members.{Mut}
use Rattle.std.specs.Bool.{◌==◌}
use Rattle.std.specs.Borrow.{Bor}
use Rattle.std.specs.Fn.{Called}
use Rattle.std.specs.Iterator.{Drains}
use Rattle.std.specs.List.{All, AllByRecursion, AllWithin, FoldsTo, HoldsAt}
use Rattle.std.specs.Option.{MatchOption}
use Rattle.std.proofs.lemmas.Fn.{fold_over}
use Rattle.std.proofs.lemmas.Iterator.{YieldsList}
use Rattle.access.proofs.Bits.{bit_zero}
use Rattle.access.specs.Model.Operations.{Is}
use Rattle.access.specs.Rights.{bit}
use Rattle.access.specs.Rules.Sets.{Triples, same, added}
use Rattle.access.proofs.Rules.Membership.{added_elsewhere, added_there, same_is}
use Rattle.store.specs.declared.triple.Triple.{Triple}
use Rattle.store.specs.Contents.{Same}
use Rattle.roll.specs.Lists.{listed, Found, blank}
use Rattle.store.specs.Ranges.{at}

-- two triples may be added in either order
added_swap : (x y : Triple) (old : Triples) → Same (at x added (at y added old)) (at y added (at x added old))
added_swap x y old h t r = or_swap (at x same h t r) (at y same h t r) (old h t r)
  where
    or_swap : (a b c : Bool) → (a || (b || c)) ≡ (b || (a || c))
    or_swap true true c = refl
    or_swap true false c = refl
    or_swap false b c = refl

also : (x : Triple) (a b : Triples) → Same a b → Same (at x added a) (at x added b)
also x a b same' h t r = ap (λ (held : Bool). at x same h t r || held) (same' h t r)

pub listed_push : (xs : List Triple) (x : Triple) → Same (listed (xs ++ x ∷ [])) (at x added (listed xs))
listed_push [] x h t r = refl
listed_push (y ∷ ys) x h t r =
    also y (listed (ys ++ x ∷ [])) (at x added (listed ys)) (listed_push ys x) h t r ∙ added_swap y x (listed ys) h t r

-- what stands in a list is a member
pub listed_at : (xs : List Triple) (i : ℕ) → i < length xs → at (get_or xs i blank) (listed xs) ≡ true
listed_at [] i below = absurd (omega arith)
listed_at (x ∷ xs) zero below = added_there x.holder x.target x.rights (listed xs)
listed_at (x ∷ xs) (suc i) below = or_right _ _ (listed_at xs i (omega arith))

-- whether a place was found tells whether it is a member
pub listed_found : (xs : List Triple) (x : Triple) (place : Option ℕ)
    → Found xs x place → is_some place ≡ at x (listed xs)
listed_found xs x (Some i) (below, is) = sym (subst (λ (y : Triple). at y (listed xs) ≡ true) is (listed_at xs i below))
listed_found xs x None absent = sym absent

-- a list is searched from its front, element by element
module _ (x : Triple) where
  abbrev pub IsIt : Bool → Triple → Type 0
  IsIt is y = at x same y.holder y.target y.rights ≡ is

  it : (y : Triple) → IsIt true y → y ≡ x
  it y is = let (p, q, s) = (same_is x.holder x.target x.rights y.holder y.target y.rights).0 is in λ i. record { holder = p i; target = q i; rights = s i }

  absent : (xs : List Triple) → AllWithin (IsIt false) xs 0 (length xs) → at x (listed xs) ≡ false
  absent [] none = refl
  absent (y ∷ ys) none =
      added_elsewhere y.holder y.target y.rights (listed ys) x.holder x.target x.rights other
      ∙ absent ys (λ k d _ below. none (suc k) d (omega arith) (omega arith))
    where
      other : at x (at y Is) → ⊥
      other (p, q, s) =
          false≢true (sym (none 0 y (omega arith) (omega arith)) ∙ (same_is x.holder x.target x.rights y.holder y.target y.rights).1 (sym p, sym q, sym s))

  pub found_first : (xs : List Triple) (place : Option ℕ)
      → MatchOption place (AllWithin (IsIt false) xs 0 (length xs)) (λ i. (i < length xs) × HoldsAt (IsIt true) xs i × AllWithin (IsIt false) xs 0 i)
      → Found xs x place
  found_first xs (Some i) (below, is, _) = (below, it (get_or xs i blank) (is blank))
  found_first xs None none = absent xs none

-- the word of one holder and target is put together
module _ (holder target : ℕ) where
  abbrev pub over : Triple → Bool
  over x = holder == x.holder && target == x.target

  -- triples over them, with sets of rights
  abbrev pub Such : List Triple → Type 0
  Such = AllByRecursion (λ x. (over x ≡ true) × (x.rights < 32))

  abbrev pub WordOf : List Triple → ℕ → Type 0
  WordOf xs word = Such xs → (r : ℕ) → bit word r ≡ listed xs holder target r

  such_parts : (xs : List Triple) (x : Triple) → Such (xs ++ x ∷ []) → Such xs × ((over x ≡ true) × (x.rights < 32))
  such_parts [] x (is, _) = (tt, is)
  such_parts (y ∷ ys) x (is, more) = let (before, last) = such_parts ys x more in ((is, before), last)

  same_over : (x : Triple) (r : ℕ) → over x ≡ true → at x same holder target r ≡ (r == x.rights)
  same_over x r is = both (holder == x.holder) (target == x.target) (r == x.rights) is
    where
      both : (a b c : Bool) → (a && b) ≡ true → (a && (b && c)) ≡ c
      both true true c e = refl
      both true false c e = absurd (false≢true e)
      both false b c e = absurd (false≢true e)

  pub word_more : (xs : List Triple) (x : Triple) (word next : ℕ) → WordOf xs word
      → (x.rights < 32 → (r : ℕ) → bit next r ≡ (r == x.rights || bit word r)) → WordOf (xs ++ x ∷ []) next
  word_more xs x word next so_far sets such r =
      let (before, (is, small)) = such_parts xs x such in
      sets small r
      ∙ ap (λ (b : Bool). r == x.rights || b) (so_far before r)
      ∙ ap (λ (b : Bool). b || listed xs holder target r) (sym (same_over x r is))
      ∙ sym (listed_push xs x holder target r)

  -- no other triple counts
  module _ (x : Triple) (xs : List Triple) where
    pub kept_listed : (is : Bool) → over x ≡ is → (r : ℕ) → listed (filter over xs) holder target r ≡ listed xs holder target r
        → listed (if is then x ∷ filter over xs else filter over xs) holder target r ≡ listed (x ∷ xs) holder target r
    kept_listed true e r more = ap (λ (b : Bool). at x same holder target r || b) more
    kept_listed false e r more =
        more ∙ sym (ap (λ (b : Bool). b || listed xs holder target r) (neither (holder == x.holder) (target == x.target) (r == x.rights) e))
      where
        neither : (a b c : Bool) → (a && b) ≡ false → (a && (b && c)) ≡ false
        neither true true c e = absurd (true≢false e)
        neither true false c e = refl
        neither false b c e = refl

    kept_such : (is : Bool) → over x ≡ is → x.rights < 32 → Such (filter over xs) → Such (if is then x ∷ filter over xs else filter over xs)
    kept_such true e small more = ((e, small), more)
    kept_such false e small more = more

  pub listed_over : (xs : List Triple) (r : ℕ) → listed (filter over xs) holder target r ≡ listed xs holder target r
  listed_over [] r = refl
  listed_over (x ∷ xs) r = kept_listed x xs (over x) refl r (listed_over xs r)

  pub such_over : (xs : List Triple) → All (λ x. x.rights < 32) xs → Such (filter over xs)
  such_over [] small = tt
  such_over (x ∷ xs) small = kept_such x xs (over x) refl (small 0 x (omega arith)) (such_over xs (λ i d below. small (suc i) d (omega arith)))

  -- a fold over them makes their word
  pub word_folded : {S F : Type 0} {steps : S → Option (Bor Triple) → S → Type 0} {g : Mut F (ℕ × (Bor Triple × Unit {0})) ℕ} {f : F} (s : S)
      (xs : List Triple) (word : ℕ)
      → (ys : List (Bor Triple)) × (f' : F) × Drains steps s ys
      × FoldsTo {P = F × ℕ} (λ p x q. Called g p.0 (p.1, (x, tt)) q.1 q.0) (f, 0) ys (f', word)
      → YieldsList steps (λ x. x.now) s (filter over xs) → All (λ x. x.rights < 32) xs
      → ((a : ℕ) (x : Bor Triple) (b : ℕ) (f' : F) → Called g f (a, (x, tt)) b f'
      → (f' ≡ f) × (x.now.rights < 32 → (r : ℕ) → bit b r ≡ (r == x.now.rights || bit a r)))
      → (r : ℕ) → bit word r ≡ listed xs holder target r
  word_folded {steps = steps} {g = g} {f = f} s xs word ran chain small calls r =
      fold_over steps (λ x. x.now) g WordOf f
      (λ ys a x b f' so_far call. let (same_f, sets) = calls a x b f' call in (word_more ys x.now a b so_far sets, same_f))
      s (filter over xs) 0 word chain.runs (λ _ r. bit_zero r) ran (such_over xs small) r
      ∙ listed_over xs r

-- what a write takes away and what it brings
listed_set : (xs : List Triple) (i : ℕ) (y : Triple) → i < length xs
    → Same (at (get_or xs i blank) added (listed (set xs i y))) (at y added (listed xs))
listed_set [] i y below h t r = absurd (omega arith)
listed_set (x ∷ xs) zero y below h t r = added_swap x y (listed xs) h t r
listed_set (x ∷ xs) (suc i) y below h t r =
    added_swap (get_or xs i blank) x (listed (set xs i y)) h t r
    ∙ also x _ (at y added (listed xs)) (listed_set xs i y (omega arith)) h t r
    ∙ added_swap x y (listed xs) h t r

-- the record at i goes, and the last of m + 1 takes its place
module _ (records : List Triple) (m i : ℕ) (fits : m < length records) (below : i ≤ m) where
  pub listed_swapped : Same (listed (take (m + 1) records))
      (at (get_or (take (m + 1) records) i blank) added (listed (take m (set records i (get_or records m blank)))))
  listed_swapped h t r =
      ap (λ (l : List Triple). listed l h t r) (take_more records m blank fits)
      ∙ listed_push (take m records) last h t r
      ∙ ⊎_elim at_end before_end (cases_eq i m)
      ∙ sym (ap (λ (x : Triple). at x added (listed (take m (set records i last))) h t r) (get_or-take (m + 1) records i blank (omega arith)))
    where
      last : Triple
      last = get_or records m blank

      Swapped : ℕ → Type 0
      Swapped k =
          at last added (listed (take m records)) h t r
          ≡ at (get_or records k blank) added (listed (take m (set records k last))) h t r

      at_end : i ≡ m → Swapped i
      at_end e =
          subst Swapped (sym e) (sym (ap (λ (l : List Triple). at last added (listed l) h t r) (take-set records m last)))

      before_end : (i ≡ m → ⊥) → Swapped i
      before_end e =
          sym (listed_set (take m records) i last inside h t r)
          ∙ ap (λ (x : Triple). at x added (listed (set (take m records) i last)) h t r) (get_or-take m records i blank (omega arith))
          ∙ sym (ap (λ (l : List Triple). at (get_or records i blank) added (listed l) h t r) front)
        where
          inside : i < length (take m records)
          inside = let long = length-take-le m records (omega arith) in omega arith

          front : take m (set records i last) ≡ set (take m records) i last
          front =
              ap (λ (l : List Triple). take m (set l i last)) (sym (take-append-drop m records))
              ∙ ap (take m) (set-append_left (take m records) (drop m records) i last inside)
              ∙ take_at (set (take m records) i last) (drop m records) m
              (length-set (take m records) i last ∙ length-take-le m records (omega arith))
