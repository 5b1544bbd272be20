-- What a session stands for: the state of its kernel, and the declarations of the language of applications.
use Rattle.std.specs.Prelude.{ℕ, suc, ◌≡◌, List, [], ◌∷◌, ◌++◌, map, length, Some}
use Rattle.ft_theory.specs.Expressions.{Expression, bound, free, symbol, meta, Arguments, no_arguments, with_body, dummy}
use Rattle.ft_theory.specs.Statements.{Claim, is_type, has_type, equal_types, equal_terms, type_goal, term_goal, type_equation_goal, term_equation_goal, Statement, plain}
use Rattle.ft_items.specs.Item.{Item, Entry, entry}
use Rattle.ft_items.specs.Store.{Declared, nth, entries_in, metavariables_in, declared_by}
use Rattle.ft_judge.specs.Meaning.{claim_in, goal_in, FormBelow, GoalBelow}
use Rattle.ft_judge.specs.declared.judgement.Goal.{Goal}
use Rattle.ft_kernel.specs.State.{State}
use Rattle.ft_applications_meaning.specs.Building.{Declaration, theory, names, metavariable_count}
use Rattle.ft_applications_meaning.specs.Histories.{told}
use Rattle.ft_run.specs.Steps.{AllOfApplications}
use Rattle.ft_run.specs.declared.session.Known.{Known}
use Rattle.ft_run.specs.declared.session.Claimed.{Claimed}

pub record Progress : Type 0 where
  pub state : State
  pub rules : List Declaration

-- statements for metavariables that are numbered from m
abbrev pub numbered : ℕ → List Statement → List (ℕ × Statement)
numbered m [] = []
numbered m (b ∷ bs) = (m, b) ∷ numbered (suc m) bs

-- the boundaries of goals over the trees of a table
abbrev pub boundaries_in : List Expression → List Goal → List Statement
boundaries_in ts gs = map (λ g. plain (goal_in ts g)) gs

-- a declared rule over the trees of a table
abbrev pub declaration : List Expression → Known → Declaration
declaration ts k = record { name = k.name; rule = record { premises = numbered k.first (boundaries_in ts k.premises.items); conclusion = goal_in ts k.conclusion } }

-- the declared rules in order
abbrev pub declarations : List Expression → List Known → List Declaration
declarations ts [] = []
declarations ts (k ∷ ks) = declaration ts k ∷ declarations ts ks

-- symbols at arguments without binders, and nothing else
abbrev mutual
  pub IsSimple : Expression → Type 0
  IsSimple (bound i) = ⊥
  IsSimple (free v) = ⊥
  IsSimple (symbol s a) = AreSimple a
  IsSimple (meta m a) = ⊥

  pub AreSimple : Arguments → Type 0
  AreSimple no_arguments = Unit {0}
  AreSimple (with_body n e a) = (n ≡ 0) × IsSimple e × AreSimple a
  AreSimple (dummy n a) = ⊥

-- a type, a term of a type, or the goal of one; with simple expressions
abbrev pub IsSimpleClaim : Claim → Type 0
IsSimpleClaim (is_type A) = IsSimple A
IsSimpleClaim (has_type t A) = IsSimple t × IsSimple A
IsSimpleClaim (equal_types A B) = ⊥
IsSimpleClaim (equal_terms s t A) = ⊥
IsSimpleClaim type_goal = ⊥
IsSimpleClaim (term_goal A) = ⊥
IsSimpleClaim (type_equation_goal A B) = ⊥
IsSimpleClaim (term_equation_goal s t A) = ⊥

abbrev pub IsSimpleGoal : Claim → Type 0
IsSimpleGoal (is_type A) = ⊥
IsSimpleGoal (has_type t A) = ⊥
IsSimpleGoal (equal_types A B) = ⊥
IsSimpleGoal (equal_terms s t A) = ⊥
IsSimpleGoal type_goal = Unit {0}
IsSimpleGoal (term_goal A) = IsSimple A
IsSimpleGoal (type_equation_goal A B) = ⊥
IsSimpleGoal (term_equation_goal s t A) = ⊥

-- the goal's expressions are trees of the table, and simple
abbrev pub FitsGoal : List Expression → Goal → Type 0
FitsGoal ts g = GoalBelow (length ts) g × IsSimpleGoal (goal_in ts g)

abbrev pub AllFitGoals : List Expression → List Goal → Type 0
AllFitGoals ts [] = Unit {0}
AllFitGoals ts (g ∷ gs) = FitsGoal ts g × AllFitGoals ts gs

abbrev pub FitsKnown : List Expression → Known → Type 0
FitsKnown ts k = AllFitGoals ts k.premises.items × FitsGoal ts k.conclusion

-- each declared rule is over the table
abbrev pub AreKnown : List Expression → List Known → Type 0
AreKnown ts [] = Unit {0}
AreKnown ts (k ∷ ks) = FitsKnown ts k × AreKnown ts ks

-- the store of the kernel's list has the declared rules, and no others; each item of the list is of this language
pub record IsSession (s : State) (ks : List Known) : Type 0 where
  pub known : AreKnown s.trees ks
  pub rules : (declared_by s.items).rules ≡ theory (declarations s.trees ks)
  pub names_are : (declared_by s.items).names ≡ names (declarations s.trees ks)
  pub steps : AllOfApplications s.items

-- an entry has the claim, as a thesis without domains that rests on nothing
abbrev pub HasEntry : State → ℕ → Claim → Type 0
HasEntry s j c = nth (entries_in s.items) j ≡ Some (record { statement = plain c; set = [] })

-- what is claimed is over the table, is simple, and has its entry
pub record IsClaimed (s : State) (x : Claimed) : Type 0 where
  pub below : FormBelow (length s.trees) x.form
  pub simple : IsSimpleClaim (claim_in s.trees x.form)
  pub entry : HasEntry s x.entry (claim_in s.trees x.form)

abbrev pub AreClaimed : State → List Claimed → Type 0
AreClaimed s [] = Unit {0}
AreClaimed s (x ∷ xs) = IsClaimed s x × AreClaimed s xs

-- what is claimed is over the first n trees
abbrev pub AllClaimsBelow : ℕ → List Claimed → Type 0
AllClaimsBelow n [] = Unit {0}
AllClaimsBelow n (x ∷ xs) = FormBelow n x.form × AllClaimsBelow n xs

-- the claims of a list
abbrev pub claims_in : List Expression → List Claimed → List Claim
claims_in ts xs = map (λ x. claim_in ts x.form) xs

-- the later state has further trees and further entries, no other further item, and the same rules
pub record Keeps (p q : Progress) : Type 0 where
  pub trees : (more : List Expression) × (q.state.trees ≡ p.state.trees ++ more)
  pub items : (es : List Entry) × (q.state.items ≡ p.state.items ++ map entry es)
  pub rules : q.rules ≡ p.rules

-- the later state has further trees and further items, which tell nothing more, and the same rules
pub record GoesOn (p q : Progress) : Type 0 where
  pub trees : (more : List Expression) × (q.state.trees ≡ p.state.trees ++ more)
  pub items : (more : List Item) × (q.state.items ≡ p.state.items ++ more)
  pub tells : told q.state.items ≡ told p.state.items
  pub rules : q.rules ≡ p.rules

-- the list has no other metavariables than those of its rules
abbrev pub IsCounted : Progress → Type 0
IsCounted p = length (metavariables_in p.state.items) ≡ metavariable_count p.rules

-- the store has the metavariable m, with this goal as its boundary, which rests on nothing
abbrev pub HasMet : State → ℕ → Claim → Type 0
HasMet s m g = (d : Declared) × (nth (declared_by s.items).metavariables m ≡ Some d) × (d.boundary ≡ plain g) × (d.set ≡ [])

-- the metavariables ms are numbered from m, and have these goals
abbrev pub AreMade : State → ℕ → List Claim → List ℕ → Type 0
AreMade s m [] [] = Unit {0}
AreMade s m [] (k ∷ ks) = ⊥
AreMade s m (g ∷ gs) [] = ⊥
AreMade s m (g ∷ gs) (k ∷ ks) = (k ≡ m) × HasMet s m g × AreMade s (suc m) gs ks

-- the goals over the trees of a table
abbrev pub goals_in : List Expression → List Goal → List Claim
goals_in ts gs = map (goal_in ts) gs
