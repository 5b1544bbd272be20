-- The loops over binders and premises.
use Rattle.std.proofs.Common.{◌≡◌, ◌<◌, ◌+◌, ◌∙◌, sym, ap, subst, ℕ, suc, List, ◌∷◌, length, map, get_or, drop, drop-cons, add-one, Err}
use Rattle.std.specs.Prelude.{Result, ◌≢◌}
use Rattle.ft_items.specs.Item.{Name}
use Rattle.ft_grammar.specs.declared.syntax.Binder.{Binder as AnyBinder}
use Rattle.ft_grammar.specs.declared.syntax.Premise.{Premise as AnyPremise}
use Rattle.ft_meaning.specs.Trees.{ValueType, judgement, binder, premise}
use Rattle.ft_meaning.specs.Typing.{TypeFault, Scope, with_value}
use Rattle.ft_meaning.specs.CommandTyping.{binders_scope, premises_scope}
use Rattle.ft_types.specs.declared.fault.TypeWhy.TheVariants as why
use Rattle.ft_types.specs.declared.fault.TypeFault.{TypeFault as AnyFault}
use Rattle.ft_types.specs.Checking.{Checking, scope_of, with_local, fault_of, Keeps}
use Rattle.ft_types.specs.Commands.{Adds, Enters}
use Rattle.ft_types.proofs.Keeping.{keeps_same, keeps_trans}
use Rattle.ft_types.proofs.Cases.{scope_same}
use Rattle.ft_types.proofs.PremiseSteps.{adds_more, adds_then}

item_at : {A : Type 0} (xs : List A) (i : ℕ) (x : A) → x ≡ get_or xs i x → i < length xs → drop i xs ≡ x ∷ drop (i + 1) xs
item_at xs i x is l = drop-cons xs i x l ∙ ap (λ y. y ∷ drop (suc i) xs) (sym is) ∙ ap (λ k. x ∷ drop k xs) (sym (add-one i))

pub binder_at : (bs : List AnyBinder) (i : ℕ) (b : AnyBinder) (s : Scope) → b ≡ get_or bs i b → i < length bs
    → binders_scope (map binder (drop i bs)) s ≡ binders_scope (map binder (b ∷ drop (i + 1) bs)) s
binder_at bs i b s is l = ap (λ xs. binders_scope (map binder xs) s) (item_at bs i b is l)

pub premise_at : (ps : List AnyPremise) (i : ℕ) (p : AnyPremise) (before : List Name) (s : Scope) → p ≡ get_or ps i p → i < length ps
    → premises_scope (map premise (drop i ps)) before s ≡ premises_scope (map premise (p ∷ drop (i + 1) ps)) before s
premise_at ps i p before s is l = ap (λ xs. premises_scope (map premise xs) before s) (item_at ps i p is l)

-- one more name within the command
pub pushed_scope : (n : Name) (w x y : Checking) → y ≡ with_local n judgement x → x.top ≡ w.top → x.locals ≡ w.locals → scope_of y ≡ with_value n judgement (scope_of w)
pushed_scope n w x y is top locals = ap scope_of is ∙ ap (with_value n judgement) (scope_same w x top locals)

pub pushed_keeps : (n : Name) (A : ValueType) (v w x y : Checking) → Keeps v w → Keeps w x → y ≡ with_local n A x → Keeps v y
pushed_keeps n A v w x y a b is = keeps_trans v x y (keeps_trans v w x a b) (keeps_same x y (ap (λ (v : Checking). v.top) is) (ap (λ (v : Checking). v.types) is))

pub pushed_adds : (n : Name) (A : ValueType) (v w x y : Checking) → Adds v w → x.locals ≡ w.locals → y ≡ with_local n A x → Adds v y
pushed_adds n A v w x y a locals is = adds_more v x y (n, A) (adds_then v w x a locals) (ap (λ (v : Checking). v.locals) is)

pub enters_err : (o : Result Scope TypeFault) (r : Result (Unit {0}) AnyFault) (e : AnyFault) (v w : Checking) → r ≡ Err e → (e.why ≢ why.Memory → o ≡ Err (fault_of e)) → Enters o r v w
enters_err o r e v w is h = subst (λ r. Enters o r v w) (sym is) h
