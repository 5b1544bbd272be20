-- Induction on derivations, for any relation of premises and conclusions.
use Rattle.std.proofs.Common.{List, [], ◌∷◌}
use Rattle.ft_theory.specs.Steps.{Sequent, Tree, Trees, node, none, more}

-- P holds of each sequent of the list
abbrev pub AllOf : (Sequent → Type 0) → List Sequent → Type 0
AllOf P [] = Unit {0}
AllOf P (c ∷ cs) = P c × AllOf P cs

-- What each step carries from its premises, with their derivations at hand, to its conclusion holds of all that is derivable.
mutual
  pub induct : (S : List Sequent → Sequent → Type 0) (P : Sequent → Type 0) → ((ps : List Sequent) (c : Sequent) → S ps c → Trees S ps → AllOf P ps → P c) → (c : Sequent) → Tree S c → P c
  induct S P h c (node ps s ts) = h ps c s ts (induct_all S P h ps ts)

  pub induct_all : (S : List Sequent → Sequent → Type 0) (P : Sequent → Type 0) → ((ps : List Sequent) (c : Sequent) → S ps c → Trees S ps → AllOf P ps → P c) → (cs : List Sequent) → Trees S cs → AllOf P cs
  induct_all S P h [] none = tt
  induct_all S P h (c ∷ cs) (more t ts) = (induct S P h c t, induct_all S P h cs ts)
