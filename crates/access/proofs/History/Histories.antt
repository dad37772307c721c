-- A triple stands in the account exactly if some event put it there and none took it away later.
use Rattle.std.proofs.Common.{◌≡◌, ℕ, Bool, false, cond, ◌⊎◌, ◌↔◌, List, [], ◌∷◌, ◌++◌, length, sym, refl, ap, subst, inl, inr, arith}
use Rattle.sheet.specs.Entries.{Entry, capability}
use Rattle.access.specs.History.Calls.{Call, Answer, Event}
use Rattle.access.specs.History.Names.{stands_for}
use Rattle.access.specs.History.Accounts.{Account, blank, entered_if, loaded, fed, account}
use Rattle.access.specs.History.Standing.{Among, Puts, Takes, Untaken, Stands}

-- either the event puts the triple there, or it was there and the event does not take it
abbrev Change : List Event → Call → Answer → ℕ → ℕ → ℕ → Type 0
Change past call answer h t r =
    Puts call answer h t r ⊎ ((account past).layout.holds h t r × (Takes past call answer h t r → ⊥))

-- what is put first and then more of it
chained : {A B P Q X : Type 0} → A ↔ (Q ⊎ B) → B ↔ (P ⊎ X) → A ↔ ((P ⊎ Q) ⊎ X)
chained = grind arith

-- one record of a sheet puts the triple there if it is a capability's and says so
one_record : (a : Account) (said : Entry) (h t r : ℕ)
    → (entered_if a (stands_for a.names said)).layout.holds h t r ↔ ((capability h t r ≡ said) ⊎ a.layout.holds h t r)
one_record = grind arith

-- and so all records of a sheet do
records : (a : Account) (said : List Entry) (h t r : ℕ)
    → (loaded a said).layout.holds h t r ↔ (Among (capability h t r) said ⊎ a.layout.holds h t r)
records a [] h t r = (inr, elim [ inl none ↦ absurd none | inr held ↦ held ])
records a (said ∷ more) h t r =
    chained (records (entered_if a (stands_for a.names said)) more h t r) (one_record a said h t r)

failed_load : (a : Account) (b : Bool) (h t r : ℕ)
    → (cond b a blank).layout.holds h t r ↔ (⊥ ⊎ (a.layout.holds h t r × (b ≡ false → ⊥)))
failed_load = grind arith

change : (past : List Event) (call : Call) (answer : Answer) (h t r : ℕ)
    → (fed (account past) call answer).layout.holds h t r ↔ Change past call answer h t r
change = grind (arith, failed_load, records)

-- an event that spares the triple, after events that do
spared : (event newest : Event) (later earlier history : List Event) (h t r : ℕ)
    → history ≡ later ++ event ∷ earlier → (Takes history newest.call newest.answer h t r → ⊥)
    → Untaken later (event ∷ earlier) h t r → Untaken (newest ∷ later) (event ∷ earlier) h t r
spared event newest later earlier history h t r is spares untaken [] x before e takes = grind arith
spared event newest later earlier history h t r is spares untaken (y ∷ after) x before e takes =
    untaken after x before (cc) takes

nothing_later : (past : List Event) (h t r : ℕ) → Untaken [] past h t r
nothing_later past h t r [] x before e takes = let z = ap length e in omega arith
nothing_later past h t r (y ∷ after) x before e takes = let z = ap length e in omega arith

pub stands : (history : List Event) (h t r : ℕ) → (account history).layout.holds h t r → Stands history h t r
stands [] h t r held = absurd held
stands (newest ∷ past) h t r held =
    by_change ((change past newest.call newest.answer h t r).0 held) (stands past h t r)
  where
    by_change : Change past newest.call newest.answer h t r
        → ((account past).layout.holds h t r → Stands past h t r) → Stands (newest ∷ past) h t r
    by_change (inl puts) before = ([], newest, past, refl, puts, nothing_later (newest ∷ past) h t r)
    by_change (inr (stood, spares)) before =
        let (later, event, earlier, is, puts, untaken) = before stood in (
          newest ∷ later,
          event,
          earlier,
          ap (λ (past : List Event). newest ∷ past) is,
          puts,
          spared event newest later earlier past h t r is spares untaken,
        )

held_since : (later : List Event) (event : Event) (earlier : List Event) (h t r : ℕ)
    → Puts event.call event.answer h t r
    → Untaken later (event ∷ earlier) h t r → (account (later ++ event ∷ earlier)).layout.holds h t r
held_since [] event earlier h t r puts untaken = (change earlier event.call event.answer h t r).1 (inl puts)
held_since (newest ∷ later) event earlier h t r puts untaken =
    let spared : Untaken later (event ∷ earlier) h t r =
    λ after x rest is. untaken (newest ∷ after) x rest (ap (λ (l : List Event). newest ∷ l) is)
    in
    let before = held_since later event earlier h t r puts spared in
    (change (later ++ event ∷ earlier) newest.call newest.answer h t r).1 (inr (before, untaken [] newest later refl))

pub holds : (history : List Event) (h t r : ℕ) → Stands history h t r → (account history).layout.holds h t r
holds history h t r (later, event, earlier, is, puts, untaken) =
    subst (λ (past : List Event). (account past).layout.holds h t r) (sym is) (held_since later event earlier h t r puts untaken)
