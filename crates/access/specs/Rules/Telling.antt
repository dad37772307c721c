-- What a refused accept tells.
use Rattle.std.specs.Prelude.{◌≡◌, ℕ, ◌<◌, ◌≤◌, false, ◌⊎◌, ◌↔◌, ◌≢◌}
use Rattle.access.specs.Chains.{Chain}
use Rattle.access.specs.Model.States.{Connected}
use Rattle.access.specs.Model.Layouts.{Lives, Present, state, Steps}
use Rattle.access.specs.Model.Confinement.{Separate, Flow}
use Rattle.access.specs.Rules.Views.{View, layout}

-- the connection graph: its nodes are the present entities
abbrev pub Joined : View → ℕ → ℕ → Type 0
Joined v x y = Present (layout v) x × Present (layout v) y × Connected (state (layout v)) x y

-- two present entities are in one group of the connection graph
abbrev pub Grouped : View → ℕ → ℕ → Type 0
Grouped v x y = Present (layout v) x × Present (layout v) y × Chain (Joined v) x y

-- m is the lowest entity of e's group
abbrev pub LowestOf : View → ℕ → ℕ → Type 0
LowestOf v e m = Grouped v e m × ((other : ℕ) → Grouped v e other → m ≤ other)

-- e is in another compartment than its group's lowest entity
abbrev pub Strays : View → ℕ → Type 0
Strays v e =
    (m : ℕ) × (A : ℕ) × (B : ℕ) × LowestOf v e m × Lives (layout v) e A × Lives (layout v) m B × (A ≢ B)

-- the entity that refusal 10 tells
abbrev pub FirstStray : View → ℕ → Type 0
FirstStray v e = Strays v e × ((other : ℕ) → Strays v other → e ≤ other)

-- information steps from A to B, and there is no arrow
abbrev pub Unarrowed : View → ℕ → ℕ → Type 0
Unarrowed v A B = Steps (layout v) A B × (v.arrow A B ≡ false)

-- the pair that refusal 11 tells: the lowest by its first compartment, then by its second
abbrev pub FirstUnarrowed : View → ℕ → ℕ → Type 0
FirstUnarrowed v A B =
    Unarrowed v A B × ((C D : ℕ) → Unarrowed v C D → (A < C) ⊎ ((A ≡ C) × (B ≤ D)))

-- where there is no entity to tell, connected entities share a compartment, and the other way round; where there is no pair to
-- tell, information steps only along arrows, and the other way round; and there is never more than one of each
pub record TellsTruly : Type 0 where
  pub entity : (v : View) → Separate (layout v) ↔ ((e : ℕ) → FirstStray v e → ⊥)
  pub pair : (v : View) → Flow (layout v) ↔ ((A B : ℕ) → FirstUnarrowed v A B → ⊥)
  pub one_entity : (v : View) (e other : ℕ) → FirstStray v e → FirstStray v other → e ≡ other
  pub one_pair : (v : View) (A B C D : ℕ) → FirstUnarrowed v A B → FirstUnarrowed v C D → (A ≡ C) × (B ≡ D)
