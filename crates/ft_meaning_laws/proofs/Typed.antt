-- Values of types, and evaluations that end as typed ones do: never stuck.
use Rattle.std.proofs.Common.{◌≡◌, ℕ, zero, suc, Bool, true, false, cond, ◌&&◌, Option, Some, None, Result, Ok, Err, List, [], ◌∷◌, ◌++◌, refl, sym, ap, ap₂, ◌∙◌, subst, arith}
use Rattle.std.specs.Prelude.{nat_eq, nat_lt}
use Rattle.std.proofs.lemmas.Bool.{lt-ltb, and_parts}
use Rattle.std.proofs.Math.Dec.{eqb-suc-zero}
use Rattle.ft_common.proofs.Booleans.{false_true}
use Rattle.ft_common.proofs.Options.{one_value}
use Rattle.ft_common.proofs.Results.{ok_ok, err_ok}
use Rattle.ft_theory.specs.Rules.{Rule}
use Rattle.ft_items.specs.Item.{Name}
use Rattle.ft_items.specs.Store.{Assertion, Annotation, add_variable, declared_variable, Declarations}
use Rattle.ft_items.specs.Good.{equal_names, is_next, is_plain_type}
use Rattle.ft_items.proofs.Names.{same_name}
use Rattle.ft_reference.specs.Refusals.{Refusal, WrongForm}
use Rattle.ft_reference.specs.Declare.{Outcome as Declaration, outcome, refused_unless, new_variable}
use Rattle.ft_equality.specs.Results as results
use Rattle.ft_equality.specs.Programs.{spend_from}
use Rattle.ft_equality_laws.proofs.GoodLists.{next_more}
use Rattle.ft_meaning.specs.Names.{named, rule_of_name}
use Rattle.ft_meaning.specs.Trees.{ValueType}
use Rattle.ft_meaning.specs.Trees as type
use Rattle.ft_meaning.specs.Typing.{same_type, TypeFault, RuleType, Scope, fault_at, Unbound, meant_by, ensure_type}
use Rattle.ft_meaning.specs.Values.{Value, judgement, boundary, unit, truth, pair, nil, cons, none, some, Environment, State, Refused, Halt, fails, spent, stuck, End, performs, halts, Outcome, Run, ◌>>=◌, ◌>>◌, pure, end, halt, the, declare, settled, spend, answered, nucleus, after_declaration, the_rule, as_judgement, as_judgements}
use Rattle.ft_meaning.specs.Values as values
use Rattle.ft_meaning.specs.Forms.{make_variable}
use Rattle.ft_grammar.specs.declared.syntax.Named.{Named}
use Rattle.ft_meaning_laws.specs.Fits.{HasType, HaveTypes, SameRule, RulesFit, CountsPast}

-- the scope without its values; rules and operations stay as values are named
abbrev pub ground : Scope → Scope
ground scope = record scope { values = [] }

-- a halt that typing allows
abbrev pub HaltIsTyped : Halt → Type 0
HaltIsTyped (fails why at) = Unit {0}
HaltIsTyped (spent at) = Unit {0}
HaltIsTyped stuck = ⊥

-- an end that typing allows
abbrev pub EndIsTyped : Scope → End → Type 0
EndIsTyped scope (performs op v at) = (A : ValueType) × ((B : ValueType) × ((named scope.operations op ≡ Some (A, B)) × HasType v A))
EndIsTyped scope (halts h) = HaltIsTyped h

-- the outcome is one that typing allows
abbrev pub Allows : {A : Type 0} → Scope → (A → Type 0) → Result A End → Type 0
Allows scope P (Ok a) = P a
Allows scope P (Err e) = EndIsTyped scope e

-- An evaluation may begin here.
pub record Ready (scope : Scope) (s : State) : Type 0 where
  pub rules : RulesFit scope s.declarations
  pub units : CountsPast s

-- The outcome is one that typing allows; rules and their names stay, and units count past the variables.
pub record Safe (A : Type 0) (scope : Scope) (P : A → Type 0) (s : State) (o : Outcome A) : Type 0 where
  pub names : o.1.declarations.names ≡ s.declarations.names
  pub rules : o.1.declarations.rules ≡ s.declarations.rules
  pub units : CountsPast o.1
  pub allows : Allows scope P o.0

abbrev pub IsSafe : (A : Type 0) → Scope → (A → Type 0) → Run A → Type 0
IsSafe A scope P m = (s : State) → Ready scope s → Safe A scope P s (m s)

-- the rules of names, by names and rules
abbrev rule_in : Name → List Name → List Rule → Option (ℕ × Rule)
rule_in n ns T = rule_of_name (record { rules = T; names = ns; metavariables = []; variables = [] }) n

pub rules_fit : (scope : Scope) (W X : Declarations) → X.names ≡ W.names → X.rules ≡ W.rules → RulesFit scope W → RulesFit scope X
rules_fit scope W X n r f name = subst (SameRule (named scope.rules name)) (sym (ap₂ (rule_in name) n r)) (f name)

pub ready_later : (scope : Scope) (s t : State) → t.declarations.names ≡ s.declarations.names → t.declarations.rules ≡ s.declarations.rules → CountsPast t → Ready scope s → Ready scope t
ready_later scope s t n r u f = record { rules = rules_fit scope s.declarations t.declarations n r f.rules; units = u }

-- what stays as it is
pub safe_here : (A : Type 0) (scope : Scope) (P : A → Type 0) (s : State) → Ready scope s → (r : Result A End) → Allows scope P r → Safe A scope P s (r, s)
safe_here A scope P s f r k = record { names = refl; rules = refl; units = f.units; allows = k }

-- what comes later
pub safe_later : (A B : Type 0) (scope : Scope) (P : A → Type 0) (Q : B → Type 0) (s : State) (o : Outcome A) (p : Outcome B) → Safe A scope P s o → Safe B scope Q o.1 p → Safe B scope Q s p
safe_later A B scope P Q s o p k l = record { names = l.names ∙ k.names; rules = l.rules ∙ k.rules; units = l.units; allows = l.allows }

pub ready_after : (A : Type 0) (scope : Scope) (P : A → Type 0) (s : State) (o : Outcome A) → Ready scope s → Safe A scope P s o → Ready scope o.1
ready_after A scope P s o f k = ready_later scope s o.1 k.names k.rules k.units f

safe_after : (A B : Type 0) (scope : Scope) (P : A → Type 0) (Q : B → Type 0) (s : State) → Ready scope s → (o : Outcome A) (next : A → Run B) → Safe A scope P s o → ((a : A) → P a → IsSafe B scope Q (next a)) → Safe B scope Q s (values.after o next)
safe_after A B scope P Q s f (Ok a, t) next k g = safe_later A B scope P Q s (Ok a, t) (next a t) k (g a k.allows t (ready_after A scope P s (Ok a, t) f k))
safe_after A B scope P Q s f (Err e, t) next k g = record { names = k.names; rules = k.rules; units = k.units; allows = k.allows }

pub safe_bind : (A B : Type 0) (scope : Scope) (P : A → Type 0) (Q : B → Type 0) (m : Run A) (next : A → Run B) → IsSafe A scope P m → ((a : A) → P a → IsSafe B scope Q (next a)) → IsSafe B scope Q (m >>= next)
safe_bind A B scope P Q m next k g s f = safe_after A B scope P Q s f (m s) next (k s f) g

pub safe_then : (A B : Type 0) (scope : Scope) (P : A → Type 0) (Q : B → Type 0) (m : Run A) (n : Run B) → IsSafe A scope P m → IsSafe B scope Q n → IsSafe B scope Q (m >> n)
safe_then A B scope P Q m n k g s f = safe_after A B scope P Q s f (m s) (λ a. n) (k s f) (λ a p. g)

pub safe_pure : (A : Type 0) (scope : Scope) (P : A → Type 0) (a : A) → P a → IsSafe A scope P (pure a)
safe_pure A scope P a p s f = safe_here A scope P s f (Ok a) p

pub safe_end : (A : Type 0) (scope : Scope) (P : A → Type 0) (e : End) → EndIsTyped scope e → IsSafe A scope P (end e)
safe_end A scope P e p s f = safe_here A scope P s f (Err e) p

pub safe_halt : (A : Type 0) (scope : Scope) (P : A → Type 0) (h : Halt) → HaltIsTyped h → IsSafe A scope P (halt h)
safe_halt A scope P h p = safe_end A scope P (halts h) p

pub safe_cond : (A : Type 0) (scope : Scope) (P : A → Type 0) (b : Bool) (m n : Run A) → IsSafe A scope P m → IsSafe A scope P n → IsSafe A scope P (cond b m n)
safe_cond A scope P true m n k l = k
safe_cond A scope P false m n k l = l

abbrev pub Any : {A : Type 0} → A → Type 0
Any a = Unit {0}

-- units
next_suc : (s : State) → CountsPast s → is_next s.declarations.variables (suc s.units.used) ≡ true
next_suc s h = next_more s.declarations.variables s.units.used (suc s.units.used) (omega arith) h

pub safe_spend : (scope : Scope) (at : ℕ) → IsSafe (Unit {0}) scope Any (spend at)
safe_spend scope at s f = go s.units.left
  where
    go : (left : ℕ) → Safe (Unit {0}) scope Any s (settled at s (spend_from s.units.used left (λ u. (Ok tt, u))))
    go zero = record { names = refl; rules = refl; units = f.units; allows = tt }
    go (suc left) = record { names = refl; rules = refl; units = next_suc s f.units; allows = tt }

pub safe_spending : (A : Type 0) (scope : Scope) (P : A → Type 0) (at : ℕ) (n : Run A) → IsSafe A scope P n → IsSafe A scope P (spend at >> n)
safe_spending A scope P at n k = safe_then (Unit {0}) A scope Any P (spend at) n (safe_spend scope at) k

-- the nucleus
pub safe_asked : (scope : Scope) (P : Assertion → Type 0) (at : ℕ) (ask : Declarations → Result Assertion Refusal) → ((W : Declarations) (a : Assertion) → ask W ≡ Ok a → P a) → IsSafe Assertion scope P (nucleus at ask)
safe_asked scope P at ask h s f = go (ask s.declarations) refl
  where
    go : (r : Result Assertion Refusal) → ask s.declarations ≡ r → Safe Assertion scope P s (answered at r s)
    go (Ok a) e = safe_here Assertion scope P s f (Ok a) (h s.declarations a e)
    go (Err r) e = safe_here Assertion scope P s f (Err (halts (fails (Refused r) at))) tt

pub safe_nucleus : (scope : Scope) (at : ℕ) (ask : Declarations → Result Assertion Refusal) → IsSafe Assertion scope Any (nucleus at ask)
safe_nucleus scope at ask = safe_asked scope Any at ask (λ W a e. tt)

pub safe_rule : (scope : Scope) (n : Name) (r : RuleType) → named scope.rules n ≡ Some r → IsSafe (ℕ × Rule) scope Any (the_rule n)
safe_rule scope n r e s f = go (rule_of_name s.declarations n) (subst (λ o. SameRule o (rule_of_name s.declarations n)) e (f.rules n))
  where
    go : (o : Option (ℕ × Rule)) → SameRule (Some r) o → Safe (ℕ × Rule) scope Any s (the o s)
    go (Some R) k = safe_here (ℕ × Rule) scope Any s f (Ok R) tt
    go None k = absurd k

-- a new variable
next_last : (G : List (ℕ × Annotation)) (v : ℕ) (d : Annotation) → is_next G v ≡ true → is_next (G ++ ((v, d) ∷ [])) (suc v) ≡ true
next_last [] v d h = ap (λ b. b && true) (lt-ltb v (suc v) (omega arith))
next_last (p ∷ G) v d h =
    let k : (nat_lt p.0 v ≡ true) × (is_next G v ≡ true) = and_parts (nat_lt p.0 v) (is_next G v) h in
    let l : nat_lt p.0 (suc v) ≡ true = (and_parts (nat_lt p.0 (suc v)) true (next_more (p ∷ []) v (suc v) (omega arith) (ap (λ b. b && true) k.0))).0 in
    ap₂ (λ a b. a && b) l (next_last G v d k.1)

pub safe_make : (scope : Scope) (at : ℕ) (n : Name) (A : Assertion) → IsSafe (ℕ × Annotation) scope Any (make_variable at n A)
safe_make scope at n A s f = spends s.units.left
  where
    v : ℕ
    v = s.units.used

    made : Bool → Declaration Declarations (ℕ × Annotation) Refusal
    made b = outcome (refused_unless b WrongForm) s.declarations (add_variable s.declarations v n (Some A)) (v, declared_variable n A)

    declares : (left : ℕ) (b : Bool) → Safe (ℕ × Annotation) scope Any s (after_declaration Refused at (made b).after (made b).answer (record s { units = record { used = suc v; left = left } }))
    declares left true = record { names = refl; rules = refl; units = next_last s.declarations.variables v (declared_variable n A) f.units; allows = tt }
    declares left false = record { names = refl; rules = refl; units = next_suc s f.units; allows = tt }

    spends : (left : ℕ) → Safe (ℕ × Annotation) scope Any s (values.after (settled {A = Unit {0}} at s (spend_from v left (λ u. (Ok tt, u)))) (λ u. declare Refused at (λ W. new_variable W v n A)))
    spends zero = record { names = refl; rules = refl; units = f.units; allows = tt }
    spends (suc left) = declares left (is_plain_type A.statement)

-- values of a type
pub safe_judgement : (scope : Scope) (v : Value) → HasType v type.judgement → IsSafe Assertion scope Any (as_judgement v)
safe_judgement scope (judgement j) h = safe_pure Assertion scope Any j tt
safe_judgement scope v h = absurd h

pub safe_judgements : (scope : Scope) (v : Value) → HasType v (type.list type.judgement) → IsSafe (List Assertion) scope Any (as_judgements v)
safe_judgements scope nil h = safe_pure (List Assertion) scope Any [] tt
safe_judgements scope (cons v w) h =
    safe_bind Assertion (List Assertion) scope Any Any (as_judgement v) (λ j. as_judgements w >>= λ js. pure (j ∷ js)) (safe_judgement scope v h.0) (λ j p.
    safe_bind (List Assertion) (List Assertion) scope Any Any (as_judgements w) (λ js. pure (j ∷ js)) (safe_judgements scope w h.1) (λ js q. safe_pure (List Assertion) scope Any (j ∷ js) tt))
safe_judgements scope v h = absurd h

-- named values
abbrev pub NamedHasType : Option Value → Option ValueType → Type 0
NamedHasType (Some v) (Some A) = HasType v A
NamedHasType None None = Unit {0}
NamedHasType o p = ⊥

pub named_has_type : (G : Environment) (vs : List (Name × ValueType)) (n : Name) → HaveTypes G vs → NamedHasType (named G n) (named vs n)
named_has_type [] [] n h = tt
named_has_type [] (q ∷ vs) n h = absurd h
named_has_type (p ∷ G) [] n h = absurd h
named_has_type (p ∷ G) (q ∷ vs) n h = subst (λ z. NamedHasType (cond (equal_names p.0 n) (Some p.1) (named G n)) (cond (equal_names z n) (Some q.1) (named vs n))) h.0 (go (equal_names p.0 n) (named_has_type G vs n h.2))
  where
    go : (b : Bool) → NamedHasType (named G n) (named vs n) → NamedHasType (cond b (Some p.1) (named G n)) (cond b (Some q.1) (named vs n))
    go true k = h.1
    go false k = k

-- results
pub ok_then : {A B : Type 0} (r : Result A TypeFault) (f : A → Result B TypeFault) (b : B) → results.◌>>=◌ r f ≡ Ok b → (a : A) × ((r ≡ Ok a) × (f a ≡ Ok b))
ok_then (Ok a) f b e = (a, (refl, e))
ok_then (Err x) f b e = absurd (err_ok x b e)

pub ok_both : {A B : Type 0} (r : Result A TypeFault) (q : Result B TypeFault) (b : B) → results.◌>>◌ r q ≡ Ok b → ((a : A) × (r ≡ Ok a)) × (q ≡ Ok b)
ok_both (Ok a) q b e = ((a, refl), e)
ok_both (Err x) q b e = absurd (err_ok x b e)

abbrev pub okay : {A : Type 0} → A → Result A TypeFault
okay a = Ok a

abbrev pub fault : {A : Type 0} → TypeFault → Result A TypeFault
fault x = Err x

pub not_ok : {A : Type 0} {P : Type 0} (x : TypeFault) (a : A) → fault x ≡ okay a → P
not_ok x a e = absurd (err_ok x a e)

pub same_type_true : (A B : ValueType) → same_type A B ≡ true → A ≡ B
same_type_true type.judgement type.judgement e = refl
same_type_true type.boundary type.boundary e = refl
same_type_true type.unit type.unit e = refl
same_type_true type.bool type.bool e = refl
same_type_true (type.pair A B) (type.pair C D) e = let k : (same_type A C ≡ true) × (same_type B D ≡ true) = and_parts (same_type A C) (same_type B D) e in ap₂ type.pair (same_type_true A C k.0) (same_type_true B D k.1)
same_type_true (type.list A) (type.list B) e = ap type.list (same_type_true A B e)
same_type_true (type.option A) (type.option B) e = ap type.option (same_type_true A B e)
same_type_true A B e = false_true e

pub ensured : {E : Type 0} (b : Bool) (x : E) (u : Unit {0}) → results.ensure b x ≡ Ok u → b ≡ true
ensured true x u e = refl
ensured false x u e = absurd (err_ok x u e)

pub wanted_is : (at : ℕ) (A B : ValueType) (u : Unit {0}) → ensure_type at A B ≡ Ok u → B ≡ A
wanted_is at A B u e = same_type_true B A (ensured (same_type B A) _ u e)

pub meant_is : {A : Type 0} (ns : List (Name × A)) (n : Named) (a : A) → meant_by ns n ≡ Ok a → named ns n.name ≡ Some a
meant_is {A} ns n a e = go (named ns n.name) e
  where
    go : (o : Option A) → results.some_or o (fault_at n.at (Unbound n.name)) ≡ Ok a → o ≡ Some a
    go (Some b) e = ap Some (ok_ok b a e)
    go None e = not_ok _ a e

-- a choice, where the test is known
pub safe_cond_when : (A : Type 0) (scope : Scope) (P : A → Type 0) (b : Bool) (m n : Run A) → (b ≡ true → IsSafe A scope P m) → IsSafe A scope P n → IsSafe A scope P (cond b m n)
safe_cond_when A scope P true m n k l = k refl
safe_cond_when A scope P false m n k l = l

-- operations of the same name
pub same_operation : {A B : Type 0} (ops : List (Name × (A × B))) (m n : Name) (p q : A × B) → equal_names m n ≡ true → named ops m ≡ Some p → named ops n ≡ Some q → q.0 ≡ p.0
same_operation {A} {B} ops m n p q e h k = ap (λ (z : A × B). z.0) (one_value (named ops n) q p k (ap (named ops) (sym (same_name m n e)) ∙ h))

pub suc_zero : (n : ℕ) → nat_eq (suc n) zero ≡ false
suc_zero n = eqb-suc-zero n
