-- Views: what a table is, as far as its rules are concerned.
use Rattle.std.specs.Prelude.{◌≡◌, ℕ, Bool, true, false, ◌⊎◌, List, [], map, length, None, Option, ◌≢◌}
use Rattle.access.specs.Model.Layouts.{Layout}
use Rattle.access.specs.Rules.Sets.{Triples, none, members}

pub data Phase : Type 0 where
  filling : Phase
  service : Phase

pub record Compartment : Type 0 where
  pub name : List ℕ
  -- where the name stands in the sheet that was loaded; none if a fill call declared it
  pub met : Option ℕ

pub record View : Type 0 where
  pub size : ℕ
  pub limit : ℕ
  pub phase : Phase
  pub compartments : List Compartment
  pub arrow : ℕ → ℕ → Bool
  pub home : ℕ → Option ℕ
  pub holds : Triples

abbrev pub layout : View → Layout
layout v = record { home = v.home; arrow = λ A B. v.arrow A B ≡ true; holds = λ h t r. v.holds h t r ≡ true }

abbrev pub names : View → List (List ℕ)
names v = map (λ c. c.name) v.compartments

abbrev pub declared : View → ℕ
declared v = length v.compartments

-- a table with nothing in it
abbrev pub fresh : ℕ → ℕ → View
fresh size limit = record {
  size = size;
  limit = limit;
  phase = filling;
  compartments = [];
  arrow = λ _ _. false;
  home = λ _. None;
  holds = none;
}

abbrev pub emptied : View → View
emptied v = fresh v.size v.limit

-- a view with one thing changed
abbrev pub in_phase : View → Phase → View
in_phase v new = record {
  size = v.size;
  limit = v.limit;
  phase = new;
  compartments = v.compartments;
  arrow = v.arrow;
  home = v.home;
  holds = v.holds;
}

abbrev pub with_compartments : View → List Compartment → View
with_compartments v new = record {
  size = v.size;
  limit = v.limit;
  phase = v.phase;
  compartments = new;
  arrow = v.arrow;
  home = v.home;
  holds = v.holds;
}

abbrev pub with_arrows : View → (ℕ → ℕ → Bool) → View
with_arrows v new = record {
  size = v.size;
  limit = v.limit;
  phase = v.phase;
  compartments = v.compartments;
  arrow = new;
  home = v.home;
  holds = v.holds;
}

abbrev pub with_homes : View → (ℕ → Option ℕ) → View
with_homes v new = record {
  size = v.size;
  limit = v.limit;
  phase = v.phase;
  compartments = v.compartments;
  arrow = v.arrow;
  home = new;
  holds = v.holds;
}

abbrev pub with_triples : View → Triples → View
with_triples v new = record {
  size = v.size;
  limit = v.limit;
  phase = v.phase;
  compartments = v.compartments;
  arrow = v.arrow;
  home = v.home;
  holds = new;
}

-- the store can take the triple: it is full only with as many members as its limit
abbrev pub Room : View → ℕ → ℕ → ℕ → Type 0
Room v h t r = (v.holds h t r ≡ true) ⊎ (members v.size v.holds ≢ v.limit)

-- two views of one table: tests and functions are compared at each argument
infix 4 ◌≗◌
pub record ◌≗◌ (v w : View) : Type 0 where
  pub size : v.size ≡ w.size
  pub limit : v.limit ≡ w.limit
  pub phase : v.phase ≡ w.phase
  pub compartments : v.compartments ≡ w.compartments
  pub arrow : (A B : ℕ) → v.arrow A B ≡ w.arrow A B
  pub home : (e : ℕ) → v.home e ≡ w.home e
  pub holds : (h t r : ℕ) → v.holds h t r ≡ w.holds h t r
