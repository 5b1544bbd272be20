-- What the call for the type by declaration answers.
use Rattle.std.proofs.Common.{◌≡◌, ◌∙◌, ℕ, ◌<◌, false, Option, Some, None, List, [], ◌∷◌, length, refl, sym, ap, subst}
use Rattle.std.specs.Prelude.{Ok, Err, option_map}
use Rattle.ft_common.proofs.Booleans.{true_false}
use Rattle.ft_theory.specs.Expressions.{Expression}
use Rattle.ft_theory.specs.Small.{IsSmall}
use Rattle.ft_theory.specs.Statements.{is_type, has_type, equal_types, equal_terms, type_goal, term_goal, type_equation_goal, term_equation_goal, Statement, plain, abstracted}
use Rattle.ft_items.specs.Sets.{Atom}
use Rattle.ft_items.specs.Item.{by_natural}
use Rattle.ft_items.specs.Store.{Assertion, Declarations}
use Rattle.ft_items.specs.Rows.{natural_type}
use Rattle.ft_reference.specs.Refusals as reference
use Rattle.ft_reference.specs.Refusals.{first_refusal}
use Rattle.ft_reference.specs.Checks.{natural_checks, forms_natural}
use Rattle.ft_syntax.specs.Table.{tree}
use Rattle.ft_syntax.specs.Laws.{tree_extends}
use Rattle.ft_syntax.specs.declared.syntax.SynFault.{SynFault}
use Rattle.ft_syntax.specs.declared.syntax.SynFault.TheVariants as syntax
use Rattle.ft_judge.specs.Faults as faults
use Rattle.ft_judge.specs.declared.fault.Refusal.{Refusal}
use Rattle.ft_judge.specs.declared.fault.Refusal.TheVariants.{WrongForm}
use Rattle.ft_judge.specs.declared.fault.Fault.{Fault}
use Rattle.ft_judge.specs.declared.fault.Fault.TheVariants.{Refused, Memory}
use Rattle.ft_kernel.specs.State.{State, entry_at, statement_at, set_at}
use Rattle.ft_calls.specs.Answers.{IsAnswer, Answers, Stays}
use Rattle.ft_calls.proofs.Entries.{entry_is}
use Rattle.ft_calls.proofs.Answering.{declarations, rests, resolves_one, answered_ok, refused, refused_here, with_statement}
use Rattle.ft_calls.proofs.Later.{answer_before, forms_pass, forms_fail}
use Rattle.ft_parts.specs.Types.{is_plain_term, IsNoPlainTermAt, FindsType}

-- What is looked for and not found.

pub finds_none : (ts : List Expression) (o : Option Expression) → o ≡ None → FindsType ts o (Err (Refused WrongForm))
finds_none ts o h = subst (λ o. FindsType ts o (Err (Refused WrongForm))) (sym h) (refl, tt)

-- what is found and too big
pub finds_big : (ts : List Expression) (o : Option Expression) (x : Expression) (f : SynFault) → o ≡ Some x → (f ≡ syntax.TooBig → IsSmall x → ⊥) → FindsType ts o (Err (faults.refused f))
finds_big ts o x syntax.TooBig h big = subst (λ o. FindsType ts o (Err (faults.refused syntax.TooBig))) (sym h) (forms_fail (x ∷ []) (λ k. big refl k.0), tt)
finds_big ts o x syntax.Memory h big = tt

-- A thesis that is no plain term.

other_checks : (W : Declarations) (x : Statement) → is_plain_term x ≡ false → first_refusal (natural_checks W x) ≡ Some reference.WrongForm
other_checks W (plain (is_type A)) h = refl
other_checks W (plain (has_type t A)) h = true_false h
other_checks W (plain (equal_types A B)) h = refl
other_checks W (plain (equal_terms s t A)) h = refl
other_checks W (plain type_goal) h = refl
other_checks W (plain (term_goal A)) h = refl
other_checks W (plain (type_equation_goal A B)) h = refl
other_checks W (plain (term_equation_goal s t A)) h = refl
other_checks W (abstracted A x) h = refl

pub natural_refused : (s : State) (j : ℕ) (q : Refusal) → IsNoPlainTermAt s j → q ≡ WrongForm → Answers s (by_natural j) (Err (Refused q)) s
natural_refused s j q h e =
    subst (λ q. Answers s (by_natural j) (Err (Refused q)) s) (sym e)
    (refused_here s (by_natural j) (by_natural h.0) WrongForm (resolves_one s (by_natural j) by_natural j h.0 refl h.1) (other_checks (declarations s) h.0.statement h.2, tt))

-- A plain term.

pub natural_fault : (s t : State) (j : ℕ) (e A : Expression) (f : Fault) → statement_at s j ≡ Some (plain (has_type e A)) → FindsType t.trees (natural_type (declarations s) e) (Err f) → Stays s t → Answers s (by_natural j) (Err f) t
natural_fault s t j e A (Refused q) h k x =
    let P : (S : List Atom) × (entry_at s j ≡ Some (rests (plain (has_type e A)) S)) = with_statement s j (plain (has_type e A)) h in
    refused s t (by_natural j) (by_natural (rests (plain (has_type e A)) P.0)) q (resolves_one s (by_natural j) by_natural j (rests (plain (has_type e A)) P.0) refl P.1) k x
natural_fault s t j e A Memory h k x = x

pub natural_given : (s t : State) (j n a : ℕ) (e : Expression) (S : List Atom) → statement_at s j ≡ Some (plain (has_type e (tree s.trees a))) → set_at s j ≡ Some S → natural_type (declarations s) e ≡ Some (tree t.trees n) → IsSmall (tree t.trees n)
    → Stays s t → a < length s.trees → IsAnswer t (by_natural j) (Ok (rests (plain (equal_types (tree t.trees n) (tree t.trees a))) S))
natural_given s t j n a e S h k found small x l =
    let A : Expression = tree s.trees a in
    let N : Expression = tree t.trees n in
    let P : Assertion = rests (plain (has_type e A)) S in
    answer_before s t (by_natural j) (Ok (rests (plain (equal_types N (tree t.trees a))) S)) x.0
    (subst (λ A'. IsAnswer s (by_natural j) (Ok (rests (plain (equal_types N A')) S))) (sym (tree_extends s.trees t.trees a x.1 l))
    (answered_ok s (by_natural j) (by_natural P) (plain (equal_types N A)) (resolves_one s (by_natural j) by_natural j P refl (entry_is s j (plain (has_type e A)) S h k)) refl (
      ap (λ o. first_refusal (forms_natural o)) found ∙ forms_pass (N ∷ []) (small, tt),
      ap (option_map (λ N. plain (equal_types N A))) found,
    )))
