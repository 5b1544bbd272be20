-- A rule that has a type is declared, and then the scope has the rules of the store again; or the store keeps its rules.
use Rattle.std.proofs.Common.{◌≡◌, ℕ, zero, suc, ◌<◌, Bool, true, false, cond, Option, Some, None, Ok, Err, List, [], ◌∷◌, ◌++◌, length, refl, sym, ap, ◌∙◌, subst, arith}
use Rattle.std.specs.Prelude.{option_map, option_and_then, not}
use Rattle.std.proofs.lemmas.Bool.{and_parts, not-true}
use Rattle.std.proofs.lemmas.Option.{same_Some}
use Rattle.ft_common.proofs.Booleans.{true_false}
use Rattle.ft_common.proofs.Options.{none_some}
use Rattle.ft_theory.specs.Rules.{Rule, rule_at}
use Rattle.ft_items.specs.Item.{Name}
use Rattle.ft_items.specs.Store.{Assertion, Declared, premises_of, claim_in, add_rule, Declarations}
use Rattle.ft_items.specs.Good.{equal_names, is_new}
use Rattle.ft_items.specs.Equal.{is_object_goal}
use Rattle.ft_items.specs.Rows.{atoms}
use Rattle.ft_items.proofs.Lists.{rule_end}
use Rattle.ft_items.proofs.Names.{same_name}
use Rattle.ft_reference.specs.Declare.{Outcome as Declaration, outcome, first_of, refused_unless, RuleFault, Duplicate, OpenConclusion, Draft, name_fault, first_outside, begin, next_rule, finish}
use Rattle.ft_nucleus_laws.proofs.Declaring.{unless_true, both_none}
use Rattle.ft_grammar.specs.declared.syntax.Named.{Named}
use Rattle.ft_meaning.specs.Names.{named, number_of, rule_of_name}
use Rattle.ft_meaning.specs.Trees.{Body, Premise}
use Rattle.ft_meaning.specs.Typing.{RuleType, Scope}
use Rattle.ft_meaning.specs.CommandTyping.{body_typed, premises_scope, makes_symbol}
use Rattle.ft_meaning.specs.Values.{Environment, OfRule, State, fails, halts, Outcome, Run, ◌>>=◌, pure, after_declaration, declare}
use Rattle.ft_meaning.specs.Values as values
use Rattle.ft_meaning.specs.Commands.{boundary_by, declare_premises, declare_rule}
use Rattle.ft_meaning_laws.specs.Fits.{HaveTypes, RuleHasType, SameRule, RulesFit, CanCoerce, CountsPast}
use Rattle.ft_meaning_laws.proofs.Typed.{ground, EndIsTyped, Ready, Safe, IsSafe, safe_here, ready_after}
use Rattle.ft_meaning_laws.proofs.SafeCommands.{HasKind, safe_body, PremisesTyped, premises_ground, safe_premises}

-- the number of a name after one more name
number_last : (ns : List Name) (n m : Name) → is_new ns n ≡ true → number_of (ns ++ (n ∷ [])) m ≡ cond (equal_names n m) (Some (length ns)) (number_of ns m)
number_last [] n m h = refl
number_last (k ∷ ns) n m h =
    let p : (not (equal_names k n) ≡ true) × (is_new ns n ≡ true) = and_parts (not (equal_names k n)) (is_new ns n) h in
    ap (λ o. cond (equal_names k m) (Some zero) (option_map suc o)) (number_last ns n m p.1) ∙ go (equal_names k m) refl (equal_names n m) refl (not-true (equal_names k n) p.0)
  where
    go : (a : Bool) → equal_names k m ≡ a → (b : Bool) → equal_names n m ≡ b → equal_names k n ≡ false
        → cond a (Some zero) (option_map suc (cond b (Some (length ns)) (number_of ns m))) ≡ cond b (Some (suc (length ns))) (cond a (Some zero) (option_map suc (number_of ns m)))
    go true q true r h = true_false (sym (subst (λ z. equal_names k z ≡ true) (sym (same_name n m r)) q) ∙ h)
    go true q false r h = refl
    go false q true r h = refl
    go false q false r h = refl

number_within : (ns : List Name) (m : Name) (i : ℕ) → number_of ns m ≡ Some i → i < length ns
number_within [] m i e = none_some e
number_within (k ∷ ns) m i e = go (equal_names k m) e (number_of ns m) refl (number_within ns m)
  where
    go : (b : Bool) → cond b (Some zero) (option_map suc (number_of ns m)) ≡ Some i → (o : Option ℕ) → number_of ns m ≡ o → ((j : ℕ) → number_of ns m ≡ Some j → j < length ns) → i < suc (length ns)
    go true e o q ih = let z : zero ≡ i = same_Some zero i e in omega arith
    go false e (Some j) q ih = let z : suc j ≡ i = same_Some (suc j) i (sym (ap (option_map suc) q) ∙ e) in let l : j < length ns = ih j q in omega arith
    go false e None q ih = none_some (sym (ap (option_map suc) q) ∙ e)

-- the rules of a list with one more
rule_within : (T : List Rule) (R : Rule) (i : ℕ) → i < length T → rule_at (T ++ (R ∷ [])) i ≡ rule_at T i
rule_within [] R i h = absurd (omega (arith, h))
rule_within (S ∷ T) R zero h = refl
rule_within (S ∷ T) R (suc i) h = rule_within T R i (omega (arith, h))

abbrev rule_in : List Rule → Option ℕ → Option (ℕ × Rule)
rule_in T = option_and_then (λ i. option_map (λ R. (i, R)) (rule_at T i))

rule_last : (ns : List Name) (T : List Rule) (n m : Name) (R : Rule) → length ns ≡ length T → is_new ns n ≡ true
    → rule_in (T ++ (R ∷ [])) (number_of (ns ++ (n ∷ [])) m) ≡ cond (equal_names n m) (Some (length ns, R)) (rule_in T (number_of ns m))
rule_last ns T n m R l h = ap (rule_in (T ++ (R ∷ []))) (number_last ns n m h) ∙ go (equal_names n m) (number_of ns m) refl
  where
    go : (b : Bool) (o : Option ℕ) → number_of ns m ≡ o → rule_in (T ++ (R ∷ [])) (cond b (Some (length ns)) o) ≡ cond b (Some (length ns, R)) (rule_in T o)
    go true o q = ap (option_map (λ S. (length ns, S))) (ap (rule_at (T ++ (R ∷ []))) l ∙ rule_end T R)
    go false (Some i) q = let w : i < length ns = number_within ns m i q in ap (option_map (λ S. (i, S))) (rule_within T R i (omega arith))
    go false None q = refl

pub rules_fit_last : (sc : Scope) (W X : Declarations) (n : Name) (t : RuleType) (R : Rule) → length W.names ≡ length W.rules → is_new W.names n ≡ true → RuleHasType R t → RulesFit sc W
    → X.names ≡ W.names ++ (n ∷ []) → X.rules ≡ W.rules ++ (R ∷ []) → RulesFit (record sc { rules = (n, t) ∷ sc.rules }) X
rules_fit_last sc W X n t R l h k f p q m =
    subst (SameRule (cond (equal_names n m) (Some t) (named sc.rules m))) (sym (ap (λ ns. rule_in X.rules (number_of ns m)) p ∙ ap (λ T. rule_in T (number_of (W.names ++ (n ∷ [])) m)) q ∙ rule_last W.names W.rules n m R l h)) (go (equal_names n m))
  where
    go : (b : Bool) → SameRule (cond b (Some t) (named sc.rules m)) (cond b (Some (length W.names, R)) (rule_of_name W m))
    go true = k
    go false = f m

-- What the declaration of a rule leaves: one more name and one more rule, of the type; or the old ones.
abbrev pub RuleLeft : Scope → Name → RuleType → State → Outcome Rule → Type 0
RuleLeft gr n t s (Ok R, u) = (is_new s.declarations.names n ≡ true) × (u.declarations.names ≡ s.declarations.names ++ (n ∷ [])) × (u.declarations.rules ≡ s.declarations.rules ++ (R ∷ [])) × RuleHasType R t × CountsPast u
RuleLeft gr n t s (Err e, u) = EndIsTyped gr e × (u.declarations.names ≡ s.declarations.names) × (u.declarations.rules ≡ s.declarations.rules) × CountsPast u

left_later : (gr : Scope) (n : Name) (t : RuleType) (s u : State) → u.declarations.names ≡ s.declarations.names → u.declarations.rules ≡ s.declarations.rules → (o : Outcome Rule) → RuleLeft gr n t u o → RuleLeft gr n t s o
left_later gr n t s u e f (Ok R, w) r = (subst (λ z. is_new z n ≡ true) e r.0, r.1 ∙ ap (λ z. z ++ (n ∷ [])) e, r.2 ∙ ap (λ z. z ++ (R ∷ [])) f, r.3, r.4)
left_later gr n t s u e f (Err x, w) r = (r.0, r.1 ∙ e, r.2 ∙ f, r.3)

left_after : (A : Type 0) (gr : Scope) (P : A → Type 0) (n : Name) (t : RuleType) (s : State) → Ready gr s → (o : Outcome A) (next : A → Run Rule) → Safe A gr P s o
    → ((a : A) → P a → (u : State) → Ready gr u → RuleLeft gr n t u (next a u)) → RuleLeft gr n t s (values.after o next)
left_after A gr P n t s r (Ok a, u) next k f = left_later gr n t s u k.names k.rules (next a u) (f a k.allows u (ready_after A gr P s (Ok a, u) r k))
left_after A gr P n t s r (Err e, u) next k f = (k.allows, k.names, k.rules, k.units)

premises_count : (ds : List (ℕ × Declared)) → length (premises_of ds) ≡ length ds
premises_count [] = refl
premises_count (d ∷ ds) = ap suc (premises_count ds)

finishing : (gr : Scope) (n : Name) (t : RuleType) (at : ℕ) (d : Draft) (b : Assertion) → d.name ≡ n → length d.premises ≡ t.premises → t.is_symbol ≡ is_object_goal (claim_in b.statement) → (s : State) → Ready gr s
    → RuleLeft gr n t s ((declare OfRule at (λ W. finish W d b) >>= λ r. pure r.1) s)
finishing gr n t at d b i l k s f = go (first_of (name_fault s.declarations d.name) outside) refl
  where
    outside : Option RuleFault
    outside = option_map OpenConclusion (first_outside (atoms d.premises) b.set)

    result : Option RuleFault → Declaration Declarations (ℕ × Rule) RuleFault
    result o = outcome o s.declarations (add_rule s.declarations d.name (Some d.premises) (Some b)) (next_rule s.declarations d.premises b)

    new : name_fault s.declarations d.name ≡ None → is_new s.declarations.names n ≡ true
    new e = subst (λ z. is_new s.declarations.names z ≡ true) i (unless_true (is_new s.declarations.names d.name) Duplicate (both_none (refused_unless (is_new s.declarations.names d.name) Duplicate) _ e).0)

    go : (o : Option RuleFault) → first_of (name_fault s.declarations d.name) outside ≡ o → RuleLeft gr n t s (values.after (after_declaration OfRule at (result o).after (result o).answer s) (λ r. pure r.1))
    go None e = (
      new (both_none (name_fault s.declarations d.name) outside e).0,
      ap (λ z. s.declarations.names ++ (z ∷ [])) i,
      refl,
      record { premises = sym (premises_count d.premises ∙ l); kind = k },
      f.units,
    )
    go (Some w) e = (tt, refl, refl, f.units)

abbrev Begun : Name → Draft → Type 0
Begun n d = (d.name ≡ n) × (length d.premises ≡ zero)

safe_begin : (gr : Scope) (at : ℕ) (n : Name) → IsSafe Draft gr (Begun n) (declare OfRule at (λ W. begin W n))
safe_begin gr at n s f = go (name_fault s.declarations n)
  where
    result : Option RuleFault → Declaration Declarations Draft RuleFault
    result o = outcome o s.declarations s.declarations (record { name = n; premises = [] })

    go : (o : Option RuleFault) → Safe Draft gr (Begun n) s (after_declaration OfRule at (result o).after (result o).answer s)
    go None = record { names = refl; rules = refl; units = f.units; allows = (refl, refl) }
    go (Some e) = safe_here Draft gr (Begun n) s f (Err (halts (fails (OfRule e) at))) tt

-- the type that typing gives a rule
abbrev pub rule_type : List Premise → Body → RuleType
rule_type ps c = record { premises = length ps; is_symbol = makes_symbol c }

pub rule_left : (n : Named) (ps : List Premise) (at : ℕ) (c : Body) (sc inner : Scope) (x : Unit {0}) → premises_scope ps [] sc ≡ Ok inner → body_typed c inner ≡ Ok x → (G : Environment) → HaveTypes G sc.values → CanCoerce (ground sc) → (s : State) → Ready (ground sc) s
    → RuleLeft (ground sc) n.name (rule_type ps c) s (declare_rule n ps at c G s)
rule_left n ps at c sc inner x u w G g k s r =
    left_after Draft (ground sc) (Begun n.name) n.name (rule_type ps c) s r (declare OfRule n.at (λ W. begin W n.name) s) _ (safe_begin (ground sc) n.at n.name s r) (λ d i t f.
    left_after (Draft × Environment) (ground sc) (PremisesTyped n.name (length ps) inner) n.name (rule_type ps c) t f (declare_premises ps d G t) _
    (safe_premises n.name (length ps) ps [] sc inner u d G i.0 (omega (arith, i.1)) g k t f) (λ e h v l.
    left_after Assertion (ground sc) (HasKind c) n.name (rule_type ps c) v l (boundary_by at c e.1 v) _ (conclusion e.1 h.0 v l) (λ b p z m. finishing (ground sc) n.name (rule_type ps c) at e.0 b h.1 h.2 p z m)))
  where
    same : ground inner ≡ ground sc
    same = premises_ground ps [] sc inner u

    conclusion : (H : Environment) → HaveTypes H inner.values → IsSafe Assertion (ground sc) (HasKind c) (boundary_by at c H)
    conclusion H h = subst (λ z. IsSafe Assertion z (HasKind c) (boundary_by at c H)) same (safe_body c inner x w at H h (subst CanCoerce (sym same) k))
