-- The items of a derivation, and the steps by which its entries are justified.
use Rattle.std.specs.Prelude.{ℕ, List}
use Rattle.ft_theory.specs.Statements.{Statement}
use Rattle.ft_items.specs.Sets.{Atom}

-- The step of an entry is one of 31, each with what it names: entries of E, variables of V, metavariables of M and a rule of
-- R. Its word in a derivation file stands first in each comment, with a letter for each thing named; `p..` is any number of
-- them. What each step asks and gives is in Rows.
pub data Justification (E V M R : Type 0) : Type 0 where
  -- var v: the variable at its type
  by_var : V → Justification E V M R
  -- generic m: the metavariable at its bound variables
  by_generic : M → Justification E V M R
  -- meta m p..: the metavariable at terms
  by_meta : M → List E → Justification E V M R
  -- metacong m e..: the metavariable at equal terms, by their equations
  by_metacong : M → List E → Justification E V M R
  -- abs v p: the variable bound, as the first domain
  by_abs : V → E → Justification E V M R
  -- subst p t: a term for the variable of the first domain
  by_subst : E → E → Justification E V M R
  -- substeq p e: equal terms for the variable of the first domain
  by_substeq : E → E → Justification E V M R
  -- refl p: reflexivity, from a type or a term
  by_refl : E → Justification E V M R
  -- sym p: symmetry
  by_sym : E → Justification E V M R
  -- trans p q: transitivity
  by_trans : E → E → Justification E V M R
  -- conv p e: conversion of a term
  by_conv : E → E → Justification E V M R
  -- conveq p e: conversion of an equation of terms
  by_conveq : E → E → Justification E V M R
  -- left p: the left side
  by_left : E → Justification E V M R
  -- right p: the right side
  by_right : E → Justification E V M R
  -- typeof p: the type
  by_typeof : E → Justification E V M R
  -- domain p: the first domain, as a type
  by_domain : E → Justification E V M R
  -- boundary p: the boundary of a thesis
  by_boundary : E → Justification E V M R
  -- widen p q: the thesis p with the sets of both
  by_widen : E → E → Justification E V M R
  -- btype: the boundary of a type
  by_btype : Justification E V M R
  -- bterm p: the boundary of a term
  by_bterm : E → Justification E V M R
  -- beqty p q: the boundary of an equation of types
  by_beqty : E → E → Justification E V M R
  -- beqtm p s t: the boundary of an equation of terms, the type first
  by_beqtm : E → E → E → Justification E V M R
  -- rule r p..: a rule at arguments
  by_rule : R → List E → Justification E V M R
  -- rulewith r b p..: the same, where the boundary of the conclusion is the entry b
  by_rulewith : R → E → List E → Justification E V M R
  -- inst r p..: the boundary of the next premise, or of the conclusion after all premises
  by_inst : R → List E → Justification E V M R
  -- cong r p.. / e..: a symbol at equal arguments, by their equations
  by_cong : R → List E → List E → Justification E V M R
  -- convprem r p.. / e.. / q: an argument for the next premise, moved from the arguments p.. to the right sides of e..
  by_convprem : R → List E → List E → E → Justification E V M R
  -- convback r p.. / e.. / q: the same from the right sides to the arguments
  by_convback : R → List E → List E → E → Justification E V M R
  -- arg i p: the i-th argument of the application in p, counted from 1
  by_arg : ℕ → E → Justification E V M R
  -- natural p: the type that a term has by its declaration equals the stated one
  by_natural : E → Justification E V M R
  -- metainst p m.. / q..: the entry p with theses for its metavariables
  by_metainst : E → List M → List E → Justification E V M R

-- the step as an item states it: everything is named by its number
abbrev pub Stated : Type 0
Stated = Justification ℕ ℕ ℕ ℕ

-- a name is a list of characters, each by its number in Unicode
abbrev pub Name : Type 0
Name = List ℕ

-- an entry is a thesis or a boundary, the set of what it rests on, and its step
pub record Entry : Type 0 where
  pub statement : Statement
  pub set : List Atom
  pub step : Stated

-- An item of a derivation. Entries, metavariables and rules are counted from 0, each by themselves.
pub data Item : Type 0 where
  -- a variable: its own number, its name, and the entry of its type
  variable : ℕ → Name → ℕ → Item
  -- a metavariable: its name and the entry of its boundary
  metavariable : Name → ℕ → Item
  -- a rule: its name, the metavariables of its premises, and the entry of its conclusion's boundary
  rule : Name → List ℕ → ℕ → Item
  -- a thesis or a boundary with its step
  entry : Entry → Item
  -- a shown mark: the entry that is shown to the user
  shown : ℕ → Item
