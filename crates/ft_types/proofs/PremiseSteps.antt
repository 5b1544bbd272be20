-- Premises in turn, and the names that they enter.
use Rattle.std.proofs.Common.{◌≡◌, ◌≤◌, ◌-◌, ◌∙◌, ap, refl, List, [], ◌∷◌, length, map, drop, length-append, arith, ℕ, Ok, Err, Some, None}
use Rattle.std.specs.Prelude.{Result, Option, ◌≢◌}
use Rattle.ft_equality.specs.Results.{◌>>=◌, ◌>>◌}
use Rattle.ft_items.specs.Item.{Name}
use Rattle.ft_grammar.specs.declared.syntax.Named.{Named}
use Rattle.ft_grammar.specs.declared.syntax.Ast.{Ast}
use Rattle.ft_grammar.specs.declared.syntax.Body.{Body as AnyBody}
use Rattle.ft_grammar.specs.declared.syntax.Body.TheVariants as body
use Rattle.ft_grammar.specs.declared.syntax.Premise.{Premise as AnyPremise}
use Rattle.ft_meaning.specs.Trees.{ValueType, judgement, Binder, Premise, binder, premise, premise_by, equation_body}
use Rattle.ft_meaning.specs.Typing.{Scope, with_value, ensure_new}
use Rattle.ft_meaning.specs.CommandTyping.{binders_scope, body_typed, premise_typed, premises_scope}
use Rattle.ft_types.specs.declared.fault.TypeWhy.TheVariants as why
use Rattle.ft_types.specs.declared.fault.TypeFault.{TypeFault as AnyFault}
use Rattle.ft_types.specs.Checking.{Checking, fault_of}
use Rattle.ft_types.specs.Commands.{name_in, body_in, premise_has, Adds}
use Rattle.ft_types.proofs.Cases.{left_locals}

-- ---- names that are added

pub adds_same : (v w : Checking) → w.locals ≡ v.locals → Adds v w
adds_same v w h = ([], h)

pub adds_more : (u v w : Checking) (x : Name × ValueType) → Adds u v → w.locals ≡ x ∷ v.locals → Adds u w
adds_more u v w x a h = (x ∷ a.0, h ∙ ap (λ l. x ∷ l) a.1)

pub adds_then : (u v w : Checking) → Adds u v → w.locals ≡ v.locals → Adds u w
adds_then u v w a h = (a.0, h ∙ a.1)

pub adds_count : (v w : Checking) → Adds v w → length v.locals ≤ length w.locals
adds_count v w a = omega (arith, ap length a.1, length-append a.0 v.locals)

pub adds_left : (v w : Checking) → Adds v w → drop (length w.locals - length v.locals) w.locals ≡ v.locals
adds_left v w a = ap (λ l. drop (length l - length v.locals) l) a.1 ∙ left_locals a.0 v.locals

-- ---- one premise

pub typed_equation : (n : Named) (before : List Name) (e f : Ast) (A : Option Ast) (s : Scope)
    → premise_typed n before (equation_body e f A) s ≡ (body_typed (equation_body e f A) s >> ensure_new n before)
typed_equation n before e f None s = refl
typed_equation n before e f (Some A) s = refl

-- a premise has the name and the body of its parts
by_body : (at : ℕ) (bs : List Binder) (b : AnyBody) (ps : List Premise) (before : List Name) (s : Scope)
    → premises_scope (premise_by at bs b ∷ ps) before s
    ≡ (binders_scope bs s >>= λ inner. premise_typed (name_in b) before (body_in b) inner >> premises_scope ps ((name_in b).name ∷ before) (with_value (name_in b).name judgement s))
by_body at bs (body.Type b x) ps before s = refl
by_body at bs (body.Term b x A) ps before s = refl
by_body at bs (body.Equation b e f A x) ps before s = refl

goes_on : {A B E : Type 0} (o : Result A E) (g : A → Result (Unit {0}) E) (r : Result B E) → (o >>= g) ≡ Ok tt → (o >>= λ a. g a >> r) ≡ r
goes_on (Ok a) g r h = ap (λ t. t >> r) h
goes_on (Err e) g r h = cc

stops : {A B E : Type 0} (o : Result A E) (g : A → Result (Unit {0}) E) (r : Result B E) (e : E) → (o >>= g) ≡ Err e → (o >>= λ a. g a >> r) ≡ Err e
stops (Ok a) g r e h = ap (λ t. t >> r) h
stops (Err f) g r e h = let same : f ≡ e = cc in ap (λ x. Err x) same

pub next_premise : (p : AnyPremise) (ps : List AnyPremise) (before : List Name) (s : Scope) → premise_has p before s ≡ Ok tt
    → premises_scope (map premise (p ∷ ps)) before s ≡ premises_scope (map premise ps) ((name_in p.body).name ∷ before) (with_value (name_in p.body).name judgement s)
unfolding premise_has
next_premise p ps before s h =
    by_body p.at (map binder p.binders) p.body (map premise ps) before s
    ∙ goes_on (binders_scope (map binder p.binders) s) (premise_typed (name_in p.body) before (body_in p.body)) _ h

pub premise_fails : (p : AnyPremise) (ps : List AnyPremise) (before : List Name) (s : Scope) (e : AnyFault) → (e.why ≢ why.Memory → premise_has p before s ≡ Err (fault_of e))
    → e.why ≢ why.Memory → premises_scope (map premise (p ∷ ps)) before s ≡ Err (fault_of e)
unfolding premise_has
premise_fails p ps before s e g told =
    by_body p.at (map binder p.binders) p.body (map premise ps) before s
    ∙ stops (binders_scope (map binder p.binders) s) (premise_typed (name_in p.body) before (body_in p.body)) _ (fault_of e) (g told)
