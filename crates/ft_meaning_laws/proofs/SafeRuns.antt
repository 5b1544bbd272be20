-- Commands that have a type leave what fits the scope after them, so no run is stuck.
use Rattle.std.proofs.Common.{◌≡◌, ℕ, ◌+◌, Bool, true, false, cond, ◌||◌, ◌⊎◌, inl, inr, Some, Result, Ok, Err, List, [], ◌∷◌, length, length-append, refl, sym, ap, ◌∙◌, subst}
use Rattle.std.specs.Prelude.{is_some, not, codes}
use Rattle.ft_common.proofs.Booleans.{false_true}
use Rattle.ft_common.proofs.Results.{ok_ok}
use Rattle.ft_theory.specs.Rules.{Rule}
use Rattle.ft_items.specs.Item.{Name}
use Rattle.ft_items.specs.Store.{Assertion, Declarations}
use Rattle.ft_items.specs.Good.{equal_names}
use Rattle.ft_items.proofs.Names.{same_name}
use Rattle.ft_equality.specs.Results as results
use Rattle.ft_equality.specs.Shapes.{ShapeFault, EqualityRules, add_computation, add_extensionality}
use Rattle.ft_grammar.specs.declared.syntax.Named.{Named}
use Rattle.ft_meaning.specs.Names.{named}
use Rattle.ft_meaning.specs.Trees.{ValueType, Form, place, Body, Premise, Command, rule_command, let_command, operation_command, computation_command, extensionality_command, show_command}
use Rattle.ft_meaning.specs.Trees as type
use Rattle.ft_meaning.specs.Typing.{same_type, RuleType, Scope, fault_at, Twice, Mismatch, Exactly, with_value, meant_by, type_of}
use Rattle.ft_meaning.specs.CommandTyping.{body_typed, premises_scope, is_shown, scope_after}
use Rattle.ft_meaning.specs.Values.{Value, judgement, boundary, unit, truth, pair, nil, cons, none, some, Environment, Fault, Unhandled, Refused, NoMatch, OfRule, OfShape, Halt, fails, spent, stuck, State, performs, halts, Outcome, Run, ◌>>=◌, ◌>>◌, pure, as_judgement, as_judgements}
use Rattle.ft_meaning.specs.Values as values
use Rattle.ft_meaning.specs.Forms.{meaning}
use Rattle.ft_meaning.specs.Commands as commands
use Rattle.ft_meaning.specs.Commands.{declare_rule, shaped, declare_equality, Done, Accepted, Shown, ShownNone, Quiet, done, ended, run_command}
use Rattle.ft_meaning_laws.specs.Fits.{HasType, HaveTypes, RulesFit, CanCoerce, CountsPast, Fits, Leaves, TypedCommandsFit, FirstStateFits}
use Rattle.ft_meaning_laws.proofs.Typed.{ground, Ready, Safe, IsSafe, Any, rules_fit, safe_here, safe_bind, safe_then, safe_pure, safe_judgement, safe_judgements, safe_rule, okay, ok_then, ok_both, same_type_true, meant_is, ensured}
use Rattle.ft_meaning_laws.proofs.SafeWords.{Of, either_or}
use Rattle.ft_meaning_laws.proofs.SafeForms.{safe_meaning}
use Rattle.ft_meaning_laws.proofs.SafeRules.{rules_fit_last, RuleLeft, rule_type, rule_left}

-- what a command leaves
abbrev Left : Type 0
Left = Result (Done × Environment) Halt × State

-- a state that fits is one to begin from
ready : (sc : Scope) (G : Environment) (s : State) → Fits sc G s → Ready (ground sc) s
ready sc G s f = record { rules = f.rules; units = f.units }

-- fitting again
fits_again : (sc : Scope) (G : Environment) (s t : State) → Fits sc G s → t.declarations.names ≡ s.declarations.names → t.declarations.rules ≡ s.declarations.rules → CountsPast t → Fits sc G t
fits_again sc G s t f p q u = record {
  values = f.values;
  rules = rules_fit sc s.declarations t.declarations p q f.rules;
  coerce = f.coerce;
  names = ap length p ∙ f.names ∙ sym (ap length q);
  units = u;
}

-- a command that leaves the rules as they are
leaves_safe : (sc further : Scope) (G : Environment) (s : State) → Fits sc G s → (o : Outcome (Done × Environment)) → Safe (Done × Environment) (ground sc) (λ d. HaveTypes d.1 further.values) s o
    → ((W : Declarations) → RulesFit sc W → RulesFit further W) → CanCoerce further → Leaves sc further G (ended o)
leaves_safe sc further G s f (Ok d, t) k g c = record { values = k.allows; rules = g t.declarations (rules_fit sc s.declarations t.declarations k.names k.rules f.rules); coerce = c; names = ap length k.names ∙ f.names ∙ sym (ap length k.rules); units = k.units }
leaves_safe sc further G s f (Err (performs op v at), t) k g c = fits_again sc G s t f k.names k.rules k.units
leaves_safe sc further G s f (Err (halts (fails why at)), t) k g c = fits_again sc G s t f k.names k.rules k.units
leaves_safe sc further G s f (Err (halts (spent at)), t) k g c = fits_again sc G s t f k.names k.rules k.units
leaves_safe sc further G s f (Err (halts stuck), t) k g c = absurd k.allows

-- a rule
leaves_rule : (sc : Scope) (G : Environment) (s : State) → Fits sc G s → (n : Name) (r : RuleType) (o : Outcome Rule) → RuleLeft (ground sc) n r s o → Leaves sc (record sc { rules = (n, r) ∷ sc.rules }) G (ended (values.after o (λ R. pure (Accepted n R, G))))
leaves_rule sc G s f n r (Ok R, t) k = record {
  values = f.values;
  rules = rules_fit_last sc s.declarations t.declarations n r R f.names k.0 k.3 f.rules k.1 k.2;
  coerce = f.coerce;
  names = ap length k.1 ∙ length-append s.declarations.names (n ∷ []) ∙ ap (λ i. i + 1) f.names ∙ sym (length-append s.declarations.rules (R ∷ [])) ∙ sym (ap length k.2);
  units = k.4;
}
leaves_rule sc G s f n r (Err (performs op v at), t) k = fits_again sc G s t f k.1 k.2 k.3
leaves_rule sc G s f n r (Err (halts (fails why at)), t) k = fits_again sc G s t f k.1 k.2 k.3
leaves_rule sc G s f n r (Err (halts (spent at)), t) k = fits_again sc G s t f k.1 k.2 k.3
leaves_rule sc G s f n r (Err (halts stuck), t) k = absurd k.0

-- what is shown
safe_shown_judgement : (gr : Scope) (v : Value) → HasType v type.judgement → IsSafe Done gr Any (commands.shown v)
safe_shown_judgement gr (judgement j) h = safe_pure Done gr Any (Shown (j ∷ [])) tt
safe_shown_judgement gr v h = absurd h

safe_shown_option : (gr : Scope) (v : Value) → HasType v (type.option type.judgement) → IsSafe Done gr Any (commands.shown v)
safe_shown_option gr (some v) h = safe_bind Assertion Done gr Any Any (as_judgement v) (λ j. pure (Shown (j ∷ []))) (safe_judgement gr v h) (λ j p. safe_pure Done gr Any (Shown (j ∷ [])) tt)
safe_shown_option gr none h = safe_pure Done gr Any ShownNone tt
safe_shown_option gr v h = absurd h

safe_shown_list : (gr : Scope) (v : Value) → HasType v (type.list type.judgement) → IsSafe Done gr Any (commands.shown v)
safe_shown_list gr nil h = safe_pure Done gr Any (Shown []) tt
safe_shown_list gr (cons v w) h = safe_bind (List Assertion) Done gr Any Any (as_judgements (cons v w)) (λ js. pure (Shown js)) (safe_judgements gr (cons v w) h) (λ js p. safe_pure Done gr Any (Shown js) tt)
safe_shown_list gr v h = absurd h

safe_shown : (gr : Scope) (A : ValueType) (v : Value) → is_shown A ≡ true → HasType v A → IsSafe Done gr Any (commands.shown v)
safe_shown gr A v e h = go (either_or (same_type A type.judgement || same_type A (type.option type.judgement)) (same_type A (type.list type.judgement)) e)
  where
    inner : (same_type A type.judgement ≡ true) ⊎ (same_type A (type.option type.judgement) ≡ true) → IsSafe Done gr Any (commands.shown v)
    inner (inl k) = safe_shown_judgement gr v (subst (HasType v) (same_type_true A type.judgement k) h)
    inner (inr k) = safe_shown_option gr v (subst (HasType v) (same_type_true A (type.option type.judgement) k) h)

    go : ((same_type A type.judgement || same_type A (type.option type.judgement)) ≡ true) ⊎ (same_type A (type.list type.judgement) ≡ true) → IsSafe Done gr Any (commands.shown v)
    go (inl k) = inner (either_or (same_type A type.judgement) (same_type A (type.option type.judgement)) k)
    go (inr k) = safe_shown_list gr v (subst (HasType v) (same_type_true A (type.list type.judgement) k) h)

-- equality rules
safe_equality : (gr : Scope) (add : EqualityRules → ℕ → Rule → Result EqualityRules ShapeFault) (n : Named) (r : RuleType) → named gr.rules n.name ≡ Some r → IsSafe (Unit {0}) gr Any (declare_equality add n)
safe_equality gr add n r e = safe_bind (ℕ × Rule) (Unit {0}) gr Any Any (values.the_rule n.name) _ (safe_rule gr n.name r e) (λ R p s f. go s f (add s.equality_rules R.0 R.1))
  where
    go : (s : State) → Ready gr s → (o : Result EqualityRules ShapeFault) → Safe (Unit {0}) gr Any s (shaped n.at o s)
    go s f (Ok E) = record { names = refl; rules = refl; units = f.units; allows = tt }
    go s f (Err x) = safe_here (Unit {0}) gr Any s f (Err (halts (fails (OfShape x) n.at))) tt

-- a new operation
coerce_stays : (sc : Scope) (n : Name) (p : ValueType × ValueType) → CanCoerce sc → not (is_some (named sc.operations n)) ≡ true → CanCoerce (record sc { operations = (n, p) ∷ sc.operations })
coerce_stays sc n p c e = go (equal_names n (codes "coerce")) refl
  where
    go : (b : Bool) → equal_names n (codes "coerce") ≡ b → cond b (Some p) (named sc.operations (codes "coerce")) ≡ Some (type.pair type.judgement type.boundary, type.judgement)
    go true k = false_true (sym (ap (λ z. not (is_some (named sc.operations z))) (same_name n (codes "coerce") k) ∙ ap (λ z. not (is_some z)) c) ∙ e)
    go false k = c

same_leaves : (sc a b : Scope) (G : Environment) (o : Left) → okay a ≡ okay b → Leaves sc a G o → Leaves sc b G o
same_leaves sc a b G o e k = subst (λ z. Leaves sc z G o) (ok_ok a b e) k

command_leaves : (c : Command) (sc further : Scope) (G : Environment) (s : State) → Fits sc G s → scope_after c sc ≡ Ok further → Leaves sc further G (run_command c G s)
command_leaves (rule_command at n ps c_at c) sc further G s f u =
    let k : (inner : Scope) × ((premises_scope ps [] sc ≡ Ok inner) × (_ ≡ Ok further)) = ok_then (premises_scope ps [] sc) _ further u in
    let l : ((x : Unit {0}) × (body_typed c k.0 ≡ Ok x)) × (okay (record sc { rules = (n.name, rule_type ps c) ∷ sc.rules }) ≡ okay further) = ok_both (body_typed c k.0) _ further k.1.1 in
    same_leaves sc _ further G (run_command (rule_command at n ps c_at c) G s) l.1
    (leaves_rule sc G s f n.name (rule_type ps c) (declare_rule n ps c_at c G s) (rule_left n ps c_at c sc k.0 l.0.0 k.1.0 l.0.1 G f.values f.coerce s (ready sc G s f)))
command_leaves (let_command at n e) sc further G s f u =
    let k : (A : ValueType) × ((type_of e sc ≡ Ok A) × (okay (with_value n.name A sc) ≡ okay further)) = ok_then (type_of e sc) _ further u in
    same_leaves sc (with_value n.name k.0 sc) further G (run_command (let_command at n e) G s) k.1.1
    (leaves_safe sc (with_value n.name k.0 sc) G s f (done (let_command at n e) G s)
    (safe_bind Value (Done × Environment) (ground sc) (Of k.0) (λ d. HaveTypes d.1 (with_value n.name k.0 sc).values) (meaning e G) (λ v. pure (Quiet, (n.name, v) ∷ G)) (safe_meaning e sc G k.0 k.1.0 f.values f.coerce)
    (λ v h. safe_pure (Done × Environment) (ground sc) (λ d. HaveTypes d.1 (with_value n.name k.0 sc).values) (Quiet, (n.name, v) ∷ G) (refl, h, f.values)) s (ready sc G s f)) (λ W r. r) f.coerce)
command_leaves (operation_command at n A B) sc further G s f u =
    let k : ((x : Unit {0}) × (results.ensure (not (is_some (named sc.operations n.name))) (fault_at n.at (Twice n.name)) ≡ Ok x)) × (okay (record sc { operations = (n.name, (A, B)) ∷ sc.operations }) ≡ okay further) = ok_both (results.ensure (not (is_some (named sc.operations n.name))) (fault_at n.at (Twice n.name))) _ further u in
    same_leaves sc (record sc { operations = (n.name, (A, B)) ∷ sc.operations }) further G (run_command (operation_command at n A B) G s) k.1
    (leaves_safe sc (record sc { operations = (n.name, (A, B)) ∷ sc.operations }) G s f (done (operation_command at n A B) G s)
    (safe_pure (Done × Environment) (ground sc) (λ d. HaveTypes d.1 sc.values) (Quiet, G) f.values s (ready sc G s f)) (λ W r. r) (coerce_stays sc n.name (A, B) f.coerce (ensured (not (is_some (named sc.operations n.name))) _ k.0.0 k.0.1)))
command_leaves (computation_command at n) sc further G s f u =
    let k : ((r : RuleType) × (meant_by sc.rules n ≡ Ok r)) × (okay sc ≡ okay further) = ok_both (meant_by sc.rules n) _ further u in
    same_leaves sc sc further G (run_command (computation_command at n) G s) k.1
    (leaves_safe sc sc G s f (done (computation_command at n) G s)
    (safe_then (Unit {0}) (Done × Environment) (ground sc) Any (λ d. HaveTypes d.1 sc.values) (declare_equality add_computation n) (pure (Quiet, G)) (safe_equality (ground sc) add_computation n k.0.0 (meant_is sc.rules n k.0.0 k.0.1))
    (safe_pure (Done × Environment) (ground sc) (λ d. HaveTypes d.1 sc.values) (Quiet, G) f.values) s (ready sc G s f)) (λ W r. r) f.coerce)
command_leaves (extensionality_command at n) sc further G s f u =
    let k : ((r : RuleType) × (meant_by sc.rules n ≡ Ok r)) × (okay sc ≡ okay further) = ok_both (meant_by sc.rules n) _ further u in
    same_leaves sc sc further G (run_command (extensionality_command at n) G s) k.1
    (leaves_safe sc sc G s f (done (extensionality_command at n) G s)
    (safe_then (Unit {0}) (Done × Environment) (ground sc) Any (λ d. HaveTypes d.1 sc.values) (declare_equality add_extensionality n) (pure (Quiet, G)) (safe_equality (ground sc) add_extensionality n k.0.0 (meant_is sc.rules n k.0.0 k.0.1))
    (safe_pure (Done × Environment) (ground sc) (λ d. HaveTypes d.1 sc.values) (Quiet, G) f.values) s (ready sc G s f)) (λ W r. r) f.coerce)
command_leaves (show_command at e) sc further G s f u =
    let k : (A : ValueType) × ((type_of e sc ≡ Ok A) × (_ ≡ Ok further)) = ok_then (type_of e sc) _ further u in
    let l : ((x : Unit {0}) × (results.ensure (is_shown k.0) (fault_at (place e) (Mismatch k.0 (Exactly type.judgement))) ≡ Ok x)) × (okay sc ≡ okay further) = ok_both (results.ensure (is_shown k.0) (fault_at (place e) (Mismatch k.0 (Exactly type.judgement)))) _ further k.1.1 in
    same_leaves sc sc further G (run_command (show_command at e) G s) l.1
    (leaves_safe sc sc G s f (done (show_command at e) G s)
    (safe_bind Done (Done × Environment) (ground sc) Any (λ d. HaveTypes d.1 sc.values) (meaning e G >>= commands.shown) (λ d. pure (d, G))
    (safe_bind Value Done (ground sc) (Of k.0) Any (meaning e G) commands.shown (safe_meaning e sc G k.0 k.1.0 f.values f.coerce) (λ v h. safe_shown (ground sc) k.0 v (ensured (is_shown k.0) _ l.0.0 l.0.1) h))
    (λ d p. safe_pure (Done × Environment) (ground sc) (λ d. HaveTypes d.1 sc.values) (d, G) f.values) s (ready sc G s f)) (λ W r. r) f.coerce)

pub typed_commands_fit : TypedCommandsFit
typed_commands_fit c before further G s f u = command_leaves c before further G s f u

pub first_state_fits : FirstStateFits
first_state_fits budget = record { values = tt; rules = λ n. tt; coerce = refl; names = refl; units = refl }
