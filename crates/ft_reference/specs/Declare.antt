-- Calls that declare: a variable, a metavariable, and a rule, which is drafted premise by premise.
use Rattle.std.specs.Prelude.{ℕ, suc, Bool, cond, nat_lt, Option, Some, None, option_map, Result, Ok, Err, List, [], ◌∷◌, ◌++◌, length}
use Rattle.ft_theory.specs.Rules.{Rule}
use Rattle.ft_items.specs.Sets.{Atom, met, var, has}
use Rattle.ft_items.specs.Item.{Name}
use Rattle.ft_items.specs.Store.{Assertion, Annotation, Declared, declared_variable, declared_metavariable, declared_rule, add_variable, add_metavariable, add_rule, Declarations}
use Rattle.ft_items.specs.Rows.{atoms}
use Rattle.ft_items.specs.Good.{is_plain_type, is_new}
use Rattle.ft_reference.specs.Refusals.{Refusal, WrongForm, OpenBoundary}

-- what a call leaves and what it answers
pub record Outcome (S A E : Type 0) : Type 0 where
  pub after : S
  pub answer : Result A E

-- the outcome of a call that makes the state `made` of `old`, and answers a: where there is a refusal the old state stays
abbrev pub outcome : {S A E : Type 0} → Option E → S → S → A → Outcome S A E
outcome None old made a = record { after = made; answer = Ok a }
outcome (Some e) old made a = record { after = old; answer = Err e }

-- the refusal, unless the test holds
abbrev pub refused_unless : {E : Type 0} → Bool → E → Option E
refused_unless b e = cond b None (Some e)

-- the first of two refusals
abbrev pub first_of : {E : Type 0} → Option E → Option E → Option E
first_of None o = o
first_of (Some e) o = Some e

-- Variables and metavariables. What is answered is the number with what is declared under it.

-- A variable of number v at a type, which is to be plain. The number is to be greater than those of the earlier variables.
abbrev pub new_variable : Declarations → ℕ → Name → Assertion → Outcome Declarations (ℕ × Annotation) Refusal
new_variable W v n p = outcome (refused_unless (is_plain_type p.statement) WrongForm) W (add_variable W v n (Some p)) (v, declared_variable n p)

-- the metavariable that is declared next with them, with its number
abbrev pub next_metavariable : Declarations → Name → Assertion → ℕ × Declared
next_metavariable W n b = (length W.metavariables, declared_metavariable n b)

-- the first variable of a set, which is the least
abbrev pub first_variable : List Atom → Option ℕ
first_variable [] = None
first_variable (met m ∷ S) = first_variable S
first_variable (var v ∷ S) = Some v

-- A metavariable with a boundary, which rests on no variable. Its number is the next one.
abbrev pub new_metavariable : Declarations → Name → Assertion → Outcome Declarations (ℕ × Declared) Refusal
new_metavariable W n b = outcome (option_map OpenBoundary (first_variable b.set)) W (add_metavariable W n (Some b)) (next_metavariable W n b)

-- Rules.

-- Why a rule is not declared: a rule of its name is there; there are 65,536 rules; a premise, by its position from 1, or the
-- conclusion rests on an atom that is none of the rule's own metavariables.
pub data RuleFault : Type 0 where
  Duplicate : RuleFault
  TooMany : RuleFault
  OpenPremise : ℕ → Atom → RuleFault
  OpenConclusion : Atom → RuleFault

-- a rule that is being made: its name, and the metavariables of its premises so far
pub record Draft : Type 0 where
  pub name : Name
  pub premises : List (ℕ × Declared)

-- why no rule of this name can be declared
abbrev pub name_fault : Declarations → Name → Option RuleFault
name_fault W n = first_of (refused_unless (is_new W.names n) Duplicate) (refused_unless (nat_lt (length W.rules) 65536) TooMany)

-- the first atom of the set that is not among the others; in a set it is the least
abbrev pub first_outside : List Atom → List Atom → Option Atom
first_outside others [] = None
first_outside others (a ∷ S) = cond (has a others) (first_outside others S) (Some a)

-- a draft without premises, where a rule of the name can be declared; the declarations stay
abbrev pub begin : Declarations → Name → Outcome Declarations Draft RuleFault
begin W n = outcome (name_fault W n) W W (record { name = n; premises = [] })

-- A further premise with this boundary, which rests on the draft's metavariables alone: a metavariable, whose number is the
-- next one. Declarations and draft stay as they are after a refusal.
abbrev pub premise : Declarations → Draft → Name → Assertion → Outcome (Declarations × Draft) (ℕ × Declared) RuleFault
premise W d n b = outcome (option_map (OpenPremise (suc (length d.premises))) (first_outside (atoms d.premises) b.set)) (W, d)
    (add_metavariable W n (Some b), record d { premises = d.premises ++ (next_metavariable W n b ∷ []) })
    (next_metavariable W n b)

-- the rule that is declared next with them, with its number
abbrev pub next_rule : Declarations → List (ℕ × Declared) → Assertion → ℕ × Rule
next_rule W ds c = (length W.rules, declared_rule ds c)

-- The rule of the draft with a plain boundary as its conclusion, which rests on the draft's metavariables alone. Its number is
-- the next one.
abbrev pub finish : Declarations → Draft → Assertion → Outcome Declarations (ℕ × Rule) RuleFault
finish W d c = outcome (first_of (name_fault W d.name) (option_map OpenConclusion (first_outside (atoms d.premises) c.set))) W
    (add_rule W d.name (Some d.premises) (Some c)) (next_rule W d.premises c)
