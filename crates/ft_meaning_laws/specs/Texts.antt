-- What holds of the texts of sequents.
use Rattle.std.specs.Prelude.{ℕ, ◌≡◌, Some, List, [], ◌∷◌, ◌++◌}
use Rattle.ft_theory.specs.Expressions.{Expression, bound, free, symbol, meta, Arguments, no_arguments, with_body, dummy, Terms, no_terms, also}
use Rattle.ft_theory.specs.Statements.{Claim, is_type, has_type, equal_types, equal_terms, type_goal, term_goal, type_equation_goal, term_equation_goal, Statement, plain, abstracted}
use Rattle.ft_theory.specs.Rules.{look_up}
use Rattle.ft_items.specs.Sets.{Atom, met, var, Has}
use Rattle.ft_items.specs.Item.{Name, Item}
use Rattle.ft_items.specs.Store.{Assertion, Annotation, Declared, Declarations, nth, declared_by}
use Rattle.ft_meaning.specs.Texts.{Text, variables, variable_text, sequent_text}

-- the part stands in the text
abbrev pub Mentions : Text → Text → Type 0
Mentions t part = (before after : Text) × (t ≡ before ++ part ++ after)

-- A sequent's text mentions each variable of its set that is declared, whether the thesis mentions it or not.
abbrev pub VariablesMentioned : Type 0
VariablesMentioned = (W : Declarations) (p : Assertion) (v : ℕ) (d : Annotation) → Has (var v) p.set → look_up W.variables v ≡ Some d
    → Mentions (sequent_text W p) (variable_text W (variables p.set) v)

-- What is named is declared.
module _ (W : Declarations) where
  -- each rule, metavariable and variable of the expression is declared
  abbrev mutual
    pub NamesDeclared : Expression → Type 0
    NamesDeclared (bound i) = Unit {0}
    NamesDeclared (free v) = (d : Annotation) × (look_up W.variables v ≡ Some d)
    NamesDeclared (symbol s a) = ((n : Name) × (nth W.names s ≡ Some n)) × ArgumentsDeclared a
    NamesDeclared (meta m ts) = ((d : Declared) × (nth W.metavariables m ≡ Some d)) × TermsDeclared ts

    pub ArgumentsDeclared : Arguments → Type 0
    ArgumentsDeclared no_arguments = Unit {0}
    ArgumentsDeclared (with_body n e a) = NamesDeclared e × ArgumentsDeclared a
    ArgumentsDeclared (dummy n a) = ArgumentsDeclared a

    pub TermsDeclared : Terms → Type 0
    TermsDeclared no_terms = Unit {0}
    TermsDeclared (also t ts) = NamesDeclared t × TermsDeclared ts

  -- so of a claim or a goal
  abbrev pub ClaimDeclared : Claim → Type 0
  ClaimDeclared (is_type A) = NamesDeclared A
  ClaimDeclared (has_type t A) = NamesDeclared t × NamesDeclared A
  ClaimDeclared (equal_types A B) = NamesDeclared A × NamesDeclared B
  ClaimDeclared (equal_terms s t A) = NamesDeclared s × NamesDeclared t × NamesDeclared A
  ClaimDeclared type_goal = Unit {0}
  ClaimDeclared (term_goal A) = NamesDeclared A
  ClaimDeclared (type_equation_goal A B) = NamesDeclared A × NamesDeclared B
  ClaimDeclared (term_equation_goal s t A) = NamesDeclared s × NamesDeclared t × NamesDeclared A

  -- so of a statement
  abbrev pub StatementDeclared : Statement → Type 0
  StatementDeclared (plain c) = ClaimDeclared c
  StatementDeclared (abstracted A x) = NamesDeclared A × StatementDeclared x

  -- a member of a context is declared, and what its boundary or its type names
  abbrev pub MemberDeclared : Atom → Type 0
  MemberDeclared (met m) = (d : Declared) × (nth W.metavariables m ≡ Some d) × StatementDeclared d.boundary
  MemberDeclared (var v) = (d : Annotation) × (look_up W.variables v ≡ Some d) × NamesDeclared d.annotation

  abbrev pub MembersDeclared : List Atom → Type 0
  MembersDeclared [] = Unit {0}
  MembersDeclared (a ∷ S) = MemberDeclared a × MembersDeclared S

-- all that a sequent names is declared
abbrev pub SequentDeclared : Declarations → Assertion → Type 0
SequentDeclared W p = MembersDeclared W p.set × StatementDeclared W p.statement

-- The same assertion over a longer list has the same text, where the shorter one declares all that its sequent names.
abbrev pub TextsStay : Type 0
TextsStay = (items more : List Item) (p : Assertion) → SequentDeclared (declared_by items) p → sequent_text (declared_by (items ++ more)) p ≡ sequent_text (declared_by items) p
