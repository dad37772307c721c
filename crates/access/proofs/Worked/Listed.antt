-- Layouts whose triples are given as a list: what each triple of the list is tested for holds of the layout.
use Rattle.std.proofs.Common.{◌≡◌, ℕ, Bool, true, false, not, ◌&&◌, ◌||◌, eqb, List, Some, None, Option, arith}
use Rattle.access.specs.declared.right.Right.TheVariants.{Read, Write, Grant, Store}
use Rattle.access.specs.Rights.{has}
use Rattle.access.specs.Model.States.{Sane}
use Rattle.access.specs.Model.Layouts.{Layout, state}
use Rattle.access.specs.Model.Confinement.{Local}
use Rattle.access.proofs.Worked.Triples.{among, every, each}

abbrev implies : Bool → Bool → Bool
implies a b = not a || b

abbrev there : Option ℕ → Bool
there None = false
there (Some A) = true

abbrev fits : (ℕ → ℕ → Bool) → Option ℕ → Option ℕ → ℕ → Bool
fits arrow None B r = true
fits arrow (Some A) None r = true
fits arrow (Some A) (Some B) r =
    implies (has Grant r || has Store r) (eqb A B)
    && (implies (has Write r && not (eqb A B)) (arrow A B) && implies (has Read r && not (eqb A B)) (arrow B A))

module _ (home : ℕ → Option ℕ) (arrow : ℕ → ℕ → Bool) (list : List (ℕ × ℕ × ℕ)) where
  abbrev pub listed : Layout
  listed = record { home = home; arrow = λ A B. arrow A B ≡ true; holds = λ h t r. among list h t r ≡ true }

  pub listed_sane : every (λ h t r. there (home h) && there (home t)) list ≡ true → Sane (state listed)
  listed_sane all = grind (arith, each)

  pub listed_local : every (λ h t r. fits arrow (home h) (home t) r) list ≡ true → Local listed
  listed_local all h t r A B held at_h at_t = grind (arith, each)
