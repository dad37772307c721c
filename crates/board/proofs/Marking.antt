-- What the words of a board mark, and how a write changes that.
use borrow.Rule.Slice.PartMut.{put_mid}
use Rattle.std.proofs.Common.{◌≡◌, ℕ, ◌+◌, ◌*◌, ◌^◌, ◌<◌, ◌≤◌, Bool, true, false, not, ◌&&◌, ◌||◌, eqb, List, length, get_or, set, Ok, Err, Result, sym, refl, ap, ◌∙◌, ⊎_elim, suc-mul, arith, rules}
use Rattle.std.proofs.lemmas.Nat.{mul-add-lt, mul-le, same_from_place}
use Rattle.std.proofs.lemmas.List.{get_or-set_same, get_or-set_other, places}
use Rattle.std.proofs.lemmas.Bool.{and_left, and_right, cases_eq, cases_lt, eq-eqb}
use Rattle.std.proofs.lemmas.Bool.Decides.{nat_tests}
use Rattle.access.specs.Rights.{bit}
use Rattle.access.specs.Rules.Sets.{Triples, same, added, removed, dropped}
use Rattle.access.proofs.Bits.{bit_past, bit_zero}
use Rattle.access.proofs.Rules.Membership.{added_elsewhere, dropped_elsewhere, dropped_there, removed_elsewhere}
use Rattle.std.specs.Result.{IfErr, IfOk}
use Rattle.store.specs.Answers.{Becomes, RefusedUnless}
use Rattle.store.specs.Contents.{NowHolds, Same}
use Rattle.store.specs.declared.fault.Outside.{Outside}
use Rattle.board.specs.declared.Board.{Board}
use Rattle.board.specs.Boards.{contents_of, marked, memory_of}
use Rattle.store.specs.Ranges.{inside}

-- all bits of a word that is in range count
pub marked_word : (size : ℕ) (words : List ℕ) (h t word r : ℕ) → h < size → t < size → word ≡ get_or words (h * size + t) 0
    → word < 2 ^ 32 → bit word r ≡ marked size words h t r
marked_word size words h t word r lh lt is small = ⊎_elim within past (cases_lt r 32)
  where
    within : r < 32 → bit word r ≡ marked size words h t r
    within lr =
        let ranged : inside size h t r ≡ true = grind (arith, nat_tests) in
        ap (λ (w : ℕ). bit w r) is ∙ sym (ap (λ (b : Bool). b && bit (get_or words (h * size + t) 0) r) ranged)

    past : 32 ≤ r → bit word r ≡ marked size words h t r
    past above =
        let beyond : inside size h t r ≡ false = grind (arith, nat_tests) in
        bit_past 32 word r small above ∙ sym (and_left _ (bit (get_or words (h * size + t) 0) r) beyond)

-- a board of the same size, of whose words this is known
pub now_holds : (old new : Board) (words : List ℕ) (members : Triples) → new.size ≡ old.size → new.words.now ≡ words
    → Same (marked old.size words) members → NowHolds (contents_of old) (contents_of new) members
now_holds old new words members size written holds = record {
  size = size;
  limit = ap (λ (n : ℕ). n * n * 32) size;
  holds = λ h t r.
      ap (λ (n : ℕ). marked n new.words.now h t r) size
      ∙ ap (λ (ws : List ℕ). marked old.size ws h t r) written
      ∙ holds h t r;
}

-- a board that is changed, or refuses and stays as it was
pub becomes : (old new : Board) (changed : Triples → Triples) (Ranged Changes : Type 0) (r : Result (Unit {0}) Outside)
    → RefusedUnless Ranged r → IfOk r (λ _. Changes) → IfErr r (λ _. memory_of new ≡ memory_of old) → new.size ≡ old.size
    → (Ranged → Changes → NowHolds (contents_of old) (contents_of new) (changed (contents_of old).holds))
    → Becomes r changed (contents_of old) (contents_of new)
becomes old new changed Ranged Changes (Ok _) range changes keeps size holds = holds range changes
becomes old new changed Ranged Changes (Err _) range changes keeps size holds = now_holds old new _ _ size keeps (λ h t r. refl)

-- in one word triples differ by their rights alone
same_beside : (a b k r : ℕ) → same a b k a b r ≡ eqb r k
same_beside a b k r =
    ap (λ (x : Bool). x && (eqb b b && eqb r k)) (eq-eqb a a refl) ∙ ap (λ (x : Bool). x && eqb r k) (eq-eqb b b refl)

and_assoc : (x y z : Bool) → ((x && y) && z) ≡ (x && (y && z))
and_assoc true y z = refl
and_assoc false y z = refl

-- one word is written
module _ (size : ℕ) (words : List ℕ) (whole : size * size ≤ length words) (a b : ℕ) (la : a < size) (lb : b < size) where
  abbrev place : ℕ
  place = a * size + b

  pub written_there : (word r : ℕ) → marked size (set words place word) a b r ≡ (inside size a b r && bit word r)
  written_there word r =
      let within : place < length words = omega (arith, mul-add-lt a size b size la lb) in
      ap (λ (w : ℕ). inside size a b r && bit w r) (get_or-set_same words place word 0 within)

  pub written_elsewhere : (word h t r : ℕ) → ((h ≡ a) × (t ≡ b) → ⊥)
      → marked size (set words place word) h t r ≡ marked size words h t r
  written_elsewhere word h t r other = ⊎_elim within beyond (cases_lt t size)
    where
      within : t < size → marked size (set words place word) h t r ≡ marked size words h t r
      within lt =
          ap (λ (w : ℕ). inside size h t r && bit w r)
          (get_or-set_other words place (h * size + t) word 0 (λ e. other (same_from_place h t a b size lt lb e)))

      beyond : size ≤ t → marked size (set words place word) h t r ≡ marked size words h t r
      beyond le =
          let out : inside size h t r ≡ false = grind (arith, nat_tests) in
          and_left _ _ out ∙ sym (and_left (inside size h t r) (bit (get_or words (h * size + t) 0) r) out)

  written : (word : ℕ) (after : Triples) → ((r : ℕ) → (inside size a b r && bit word r) ≡ after a b r)
      → ((h t r : ℕ) → ((h ≡ a) × (t ≡ b) → ⊥) → after h t r ≡ marked size words h t r)
      → Same (marked size (set words place word)) after
  written word after there elsewhere h t r =
      ⊎_elim
      (λ eh. ⊎_elim (here eh) (λ et. apart (λ (_, e). et e)) (cases_eq t b))
      (λ eh. apart (λ (e, _). eh e))
      (cases_eq h a)
    where
      here : h ≡ a → t ≡ b → marked size (set words place word) h t r ≡ after h t r
      here eh et =
          ap (λ (h : ℕ). marked size (set words place word) h t r) eh
          ∙ ap (λ (t : ℕ). marked size (set words place word) a t r) et
          ∙ written_there word r
          ∙ there r
          ∙ sym (ap (λ (t : ℕ). after a t r) et)
          ∙ sym (ap (λ (h : ℕ). after h t r) eh)

      apart : ((h ≡ a) × (t ≡ b) → ⊥) → marked size (set words place word) h t r ≡ after h t r
      apart other = written_elsewhere word h t r other ∙ sym (elsewhere h t r other)

  -- one bit more
  pub marked_put : (rights word : ℕ) → rights ≤ 31 → ((r : ℕ) → bit word r ≡ (eqb r rights || bit (get_or words place 0) r))
      → Same (marked size (set words place word)) (added a b rights (marked size words))
  marked_put rights word ranged bits =
      written word _ there (λ h t r other. added_elsewhere a b rights (marked size words) h t r (λ (p, q, _). other (p, q)))
    where
      by_bit : (within is held : Bool) → (is ≡ true → within ≡ true) → (within && (is || held)) ≡ (is || (within && held))
      by_bit true is held ranged = refl
      by_bit false true held ranged = ranged refl
      by_bit false false held ranged = refl

      there : (r : ℕ) → (inside size a b r && bit word r) ≡ added a b rights (marked size words) a b r
      there r =
          ap (λ (x : Bool). inside size a b r && x) (bits r)
          ∙ by_bit (inside size a b r) (eqb r rights) _ (λ e. grind (arith, nat_tests))
          ∙ sym (ap (λ (x : Bool). x || marked size words a b r) (same_beside a b rights r))

  -- one bit fewer
  pub marked_taken : (rights word : ℕ) → ((r : ℕ) → bit word r ≡ (bit (get_or words place 0) r && not (eqb r rights)))
      → Same (marked size (set words place word)) (removed a b rights (marked size words))
  marked_taken rights word bits =
      written word _ there (λ h t r other. removed_elsewhere a b rights (marked size words) h t r (λ (p, q, _). other (p, q)))
    where
      there : (r : ℕ) → (inside size a b r && bit word r) ≡ removed a b rights (marked size words) a b r
      there r =
          ap (λ (x : Bool). inside size a b r && x) (bits r)
          ∙ sym (and_assoc (inside size a b r) _ _)
          ∙ sym (ap (λ (x : Bool). marked size words a b r && not x) (same_beside a b rights r))

-- the words of one holder are cleared
module _ (size : ℕ) (words : List ℕ) (whole : size * size ≤ length words) (a row span : ℕ) (zeros : List ℕ) (la : a < size)
    (begins : row ≡ a * size) (spans : span ≡ size) (blank : (k : ℕ) → get_or zeros k 0 ≡ 0) (long : length zeros ≡ span) where
  abbrev cleared : List ℕ
  cleared = put_mid row span words zeros

  within : row + span ≤ length words
  within = omega (arith, mul-le (a + 1) size size size (omega arith) (omega arith), suc-mul a size)

  row_in : (t : ℕ) → t < size → get_or cleared (a * size + t) 0 ≡ 0
  row_in t lt = let z = long in search (rules, places, blank)

  row_out : (h t : ℕ) → t < size → (h ≡ a → ⊥) → get_or cleared (h * size + t) 0 ≡ get_or words (h * size + t) 0
  row_out h t lt other = let z = long in ⊎_elim before behind (cases_lt h a)
    where
      before : h < a → get_or cleared (h * size + t) 0 ≡ get_or words (h * size + t) 0
      before less =
          let above : h * size + size ≤ row = omega (arith, mul-le (h + 1) size a size (omega arith) (omega arith), suc-mul h size) in
          search (rules, places)

      behind : a ≤ h → get_or cleared (h * size + t) 0 ≡ get_or words (h * size + t) 0
      behind more =
          let below : row + size ≤ h * size = omega (arith, mul-le (a + 1) size h size (omega arith) (omega arith), suc-mul a size) in
          search (rules, places)

  pub row_cleared : Same (marked size cleared) (dropped a (marked size words))
  row_cleared h t r = ⊎_elim inner (λ le. beyond le) (cases_lt t size)
    where
      beyond : size ≤ t → marked size cleared h t r ≡ dropped a (marked size words) h t r
      beyond le =
          let out : inside size h t r ≡ false = grind (arith, nat_tests) in
          and_left _ _ out ∙ sym (and_left _ _ (and_left _ _ out))

      inner : t < size → marked size cleared h t r ≡ dropped a (marked size words) h t r
      inner lt = ⊎_elim here elsewhere (cases_eq h a)
        where
          here : h ≡ a → marked size cleared h t r ≡ dropped a (marked size words) h t r
          here e =
              let word : get_or cleared (h * size + t) 0 ≡ 0 = ap (λ (k : ℕ). get_or cleared (k * size + t) 0) e ∙ row_in t lt in
              and_right _ _ (ap (λ (w : ℕ). bit w r) word ∙ bit_zero r) ∙ sym (ap (λ (k : ℕ). dropped a (marked size words) k t r) e ∙ dropped_there a (marked size words) t r)

          elsewhere : (h ≡ a → ⊥) → marked size cleared h t r ≡ dropped a (marked size words) h t r
          elsewhere e =
              ap (λ (w : ℕ). inside size h t r && bit w r) (row_out h t lt e) ∙ sym (dropped_elsewhere a (marked size words) h t r e)
