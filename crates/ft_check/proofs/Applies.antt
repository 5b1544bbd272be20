-- Rules of a good list at arguments.
use Rattle.std.proofs.Common.{◌≡◌, ℕ, ◌+◌, ◌<◌, ◌≤◌, Bool, true, false, ◌&&◌, Option, Some, None, List, [], ◌∷◌, refl, sym, ap, ap₂, ◌∙◌, subst, length, get_or, drop, map, arith}
use Rattle.std.specs.Prelude.{option_map, IsSomeAnd}
use Rattle.std.proofs.lemmas.List.{drop_all}
use Rattle.std.proofs.lemmas.Option.{same_Some}
use Rattle.ft_theory.specs.Expressions.{Expression, Arguments, symbol, instantiate}
use Rattle.ft_theory.specs.Statements.{Claim, Statement, plain, fill_goal, map_claim}
use Rattle.ft_theory.specs.Rules.{Rule, rule_at, instance_of, conclusion_at}
use Rattle.ft_items.specs.Item.{Item, Entry as AnyEntry}
use Rattle.ft_items.specs.Sets.{Atom, union, unions}
use Rattle.ft_items.specs.Equal.{heads, is_thesis, is_plain}
use Rattle.ft_items.specs.Store.{Assertion, Declared, Store, claim_in, each, entry_named, metavariable_named, premises_of, rule_named, rules_in, store_of, nth, Declarations, declared_by}
use Rattle.ft_items.specs.Rows.{sets, when}
use Rattle.ft_items.specs.Good.{Reject as Reason, Good, reason_of_result}
use Rattle.ft_judge.specs.Meaning.{goal_in}
use Rattle.ft_check.specs.Applying.{IsRule}
use Rattle.ft_check.specs.Comparing.{all_same}
use Rattle.ft_check.specs.Entries.{line_of}
use Rattle.ft_check.specs.declared.applied.RuleAt.{RuleAt}
use Rattle.ft_check.specs.declared.compare.Compared.{Compared}
use Rattle.ft_check.proofs.Basics.{each_first, named}
use Rattle.ft_check.proofs.Fits.{each_at, each_length}
use Rattle.ft_common.proofs.Options.{none_some}
use Rattle.ft_check.proofs.GoalsTaken.{KnownRule, rule_gone, rule_known, rule_unknown}

pub named_rule_stands : (W : Declarations) (r : ℕ) (R : ℕ × Rule) → rule_named W r ≡ Some R → (r ≡ R.0) × (rule_at W.rules r ≡ Some R.1)
named_rule_stands W r R h = go (rule_at W.rules r) refl h
  where
    go : (o : Option Rule) → rule_at W.rules r ≡ o → option_map (λ Q. (r, Q)) o ≡ Some R → (r ≡ R.0) × (rule_at W.rules r ≡ Some R.1)
    go None e h = none_some h
    go (Some Q) e h =
        let same : (r, Q) ≡ R = same_Some (r, Q) R h in
        (ap (λ (x : ℕ × Rule). x.0) same, e ∙ ap (λ (x : ℕ × Rule). Some x.1) same)

-- A rule of a good list is read by its line, and its goal by the entry of the conclusion.
pub no_rule : {P : Type 0} (items : List Item) (r : ℕ) (R : ℕ × Rule) → Good items → rule_named (declared_by items) r ≡ Some R → None ≡ option_map line_of (nth (rules_in items) r) → P
no_rule items r R g e h = rule_gone items r R.1 g (named_rule_stands (declared_by items) r R e).1 h

pub not_declared : {P : Type 0} (items : List Item) (r : ℕ) (ms : List ℕ) (p : ℕ) → Good items → rule_named (declared_by items) r ≡ None → Some (ms, p) ≡ option_map line_of (nth (rules_in items) r) → P
not_declared items r ms p g e h = rule_unknown items r ms p g (unnamed (rule_at (declared_by items).rules r) e) h
  where
    unnamed : (o : Option Rule) → option_map {U = ℕ × Rule} (λ R. (r, R)) o ≡ None → o ≡ None
    unnamed None e = refl
    unnamed (Some R) e = none_some (sym e)

known : (items : List Item) (r : ℕ) (ms : List ℕ) (p : ℕ) (R : ℕ × Rule) → Good items → rule_named (declared_by items) r ≡ Some R → Some (ms, p) ≡ option_map line_of (nth (rules_in items) r) → KnownRule (store_of items) ms p R.1
known items r ms p R g e h = rule_known items r ms p R.1 g (named_rule_stands (declared_by items) r R e).1 h

pub no_goal_found : {P : Type 0} (items : List Item) (r : ℕ) (ms : List ℕ) (p : ℕ) (R : ℕ × Rule) → Good items → rule_named (declared_by items) r ≡ Some R → Some (ms, p) ≡ option_map line_of (nth (rules_in items) r) → None ≡ entry_named (store_of items) p → P
no_goal_found items r ms p R g e h q = let k = known items r ms p R g e h in none_some (q ∙ k.line.is)

goal_found : (items : List Item) (r : ℕ) (ms : List ℕ) (p : ℕ) (R : ℕ × Rule) (a : Assertion) (o : Option Claim) → Good items → rule_named (declared_by items) r ≡ Some R → Some (ms, p) ≡ option_map line_of (nth (rules_in items) r)
    → Some a ≡ entry_named (store_of items) p → (is_thesis a.statement ≡ false → is_plain a.statement ≡ true → o ≡ Some (claim_in a.statement)) → o ≡ Some R.1.conclusion
goal_found items r ms p R a o g e h q f =
    let k = known items r ms p R g e h in
    let same : a ≡ k.line.conclusion = same_Some a k.line.conclusion (q ∙ k.line.is) in
    f (ap (λ (x : Assertion). is_thesis x.statement) same ∙ k.line.boundary) (ap (λ (x : Assertion). is_plain x.statement) same ∙ k.line.plain)
    ∙ ap Some (ap (λ (x : Assertion). claim_in x.statement) same ∙ sym k.conclusion)

pub no_goal_read : {P : Type 0} (items : List Item) (r : ℕ) (ms : List ℕ) (p : ℕ) (R : ℕ × Rule) (a : Assertion) → Good items → rule_named (declared_by items) r ≡ Some R → Some (ms, p) ≡ option_map line_of (nth (rules_in items) r)
    → Some a ≡ entry_named (store_of items) p → (is_thesis a.statement ≡ false → is_plain a.statement ≡ true → None ≡ Some (claim_in a.statement)) → P
no_goal_read items r ms p R a g e h q f = none_some (goal_found items r ms p R a None g e h q f)

pub rule_read : (ts : List Expression) (items : List Item) (r : ℕ) (x : RuleAt) (ms : List ℕ) (p : ℕ) (R : ℕ × Rule) (a : Assertion) → Good items → rule_named (declared_by items) r ≡ Some R → Some (ms, p) ≡ option_map line_of (nth (rules_in items) r)
    → Some a ≡ entry_named (store_of items) p → (is_thesis a.statement ≡ false → is_plain a.statement ≡ true → Some (goal_in ts x.goal) ≡ Some (claim_in a.statement))
    → x.symbol ≡ r → x.metavariables.now ≡ ms → IsRule ts (declared_by items) x R
rule_read ts items r x ms p R a g e h q f s m =
    let k = known items r ms p R g e h in
    record {
      number = s ∙ (named_rule_stands (declared_by items) r R e).0;
      declared = k.line.premises;
      are = ap (each (metavariable_named (declared_by items))) m ∙ k.line.are;
      premises = k.premises;
      conclusion = same_Some _ _ (goal_found items r ms p R a (Some (goal_in ts x.goal)) g e h q f);
    }

pub not_read : {P : Type 0} (Q : RuleAt → Type 0) (o : Option RuleAt) → IsSomeAnd o Q → o ≡ None → P
not_read Q o h e = absurd (subst (λ o. IsSomeAnd o Q) e h)

-- the sets of entries, the last first
pub union_start : (W : Store) (ps : List ℕ) (given : List Assertion) → each (entry_named W) ps ≡ Some given → [] ≡ unions (sets (drop (length ps) given))
union_start W ps given h = sym (ap (λ xs. unions (sets xs)) (drop_all (length ps) given (subst (λ n. n ≤ length ps) (sym (each_length (entry_named W) ps given h)) (omega arith))))

pub union_next : (W : Store) (ps : List ℕ) (given : List Assertion) (k n : ℕ) (a : Assertion) (S : List Atom) → each (entry_named W) ps ≡ Some given → k < length ps → n ≡ k + 1 → Some a ≡ entry_named W (get_or ps k 0) → S ≡ unions (sets (drop n given))
    → union a.set S ≡ unions (sets (drop k given))
union_next W ps given k n a S h l m e s =
    let x = each_at (entry_named W) ps given k (get_or ps k 0) h l refl in
    let same : a ≡ x.0 = same_Some a x.0 (e ∙ x.1) in
    ap₂ (λ (b : Assertion) S. union b.set S) same (s ∙ ap (λ n. unions (sets (drop n given))) m) ∙ sym (ap (λ xs. unions (sets xs)) x.2)

pub union_none : {P : Type 0} (W : Store) (ps : List ℕ) (given : List Assertion) (k : ℕ) → each (entry_named W) ps ≡ Some given → k < length ps → None ≡ entry_named W (get_or ps k 0) → P
union_none W ps given k h l e = let x = each_at (entry_named W) ps given k (get_or ps k 0) h l refl in none_some (e ∙ x.1)

-- the metavariables of the premises
pub numbers_are : (W : Declarations) (ms : List ℕ) (ds : List (ℕ × Declared)) → each (metavariable_named W) ms ≡ Some ds → map (λ (q : ℕ × Statement). q.0) (premises_of ds) ≡ ms
numbers_are W [] ds h = ap (λ ds. map (λ (q : ℕ × Statement). q.0) (premises_of ds)) (sym (same_Some [] ds h))
numbers_are W (m ∷ ms) ds h =
    let s = each_first (metavariable_named W) m ms ds h in
    ap (λ ds. map (λ (q : ℕ × Statement). q.0) (premises_of ds)) s.4 ∙ ap₂ (λ n ns. n ∷ ns) (named W m s.0 s.2).0 (numbers_are W ms s.1 s.3)

-- what the program compares, in the rule's own terms
pub at_these : (ts : List Expression) (W : Declarations) (r : RuleAt) (R : ℕ × Rule) (xs : List Statement) (i : ℕ → ℕ → Option Expression) (a : Arguments) (list : List Compared) (b : Bool) (S Q : List Atom) (e : AnyEntry) (x : Option Reason)
    → IsRule ts W r R → i ≡ instance_of R.1.premises (heads xs) → a ≡ heads xs → all_same ts (instantiate (instance_of R.1.premises (heads xs))) list ≡ b → S ≡ Q
    → x ≡ reason_of_result (when (all_same ts (instantiate i) list) (plain (fill_goal (map_claim (instantiate i) (goal_in ts r.goal)) (symbol r.symbol a)))) S e
    → x ≡ reason_of_result (when b (plain (fill_goal (conclusion_at R.1 (heads xs)) (symbol R.0 (heads xs))))) Q e
at_these ts W r R xs i a list b S Q e x k f h l m n =
    n ∙ ap (λ i. reason_of_result (when (all_same ts (instantiate i) list) (plain (fill_goal (map_claim (instantiate i) (goal_in ts r.goal)) (symbol r.symbol a)))) S e) f
    ∙ ap₂ (λ a c. reason_of_result (when (all_same ts (instantiate (instance_of R.1.premises (heads xs))) list) (plain (fill_goal (map_claim (instantiate (instance_of R.1.premises (heads xs))) c) (symbol r.symbol a)))) S e) h k.conclusion
    ∙ ap₂ (λ n b. reason_of_result (when b (plain (fill_goal (conclusion_at R.1 (heads xs)) (symbol n (heads xs))))) S e) k.number l
    ∙ ap (λ S. reason_of_result (when b (plain (fill_goal (conclusion_at R.1 (heads xs)) (symbol R.0 (heads xs))))) S e) m

-- one list after the other
pub two_lists : (x y a b c d : Bool) → x ≡ true → y ≡ true → (x && a) ≡ (true && c) → (y && b) ≡ (a && d) → b ≡ (c && d)
two_lists x y a b c d t u f g = ap (λ z. z && b) (sym u) ∙ g ∙ ap (λ z. z && d) (ap (λ z. z && a) (sym t) ∙ f)

pub second_not : (x y a b c d : Bool) → x ≡ true → y ≡ false → (x && a) ≡ (true && c) → (y && b) ≡ (a && d) → false ≡ (c && d)
second_not x y a b c d t u f g = ap (λ z. z && b) (sym u) ∙ g ∙ ap (λ z. z && d) (ap (λ z. z && a) (sym t) ∙ f)

pub first_not : (c d : Bool) → false ≡ c → false ≡ (c && d)
first_not c d e = ap (λ c. c && d) e
