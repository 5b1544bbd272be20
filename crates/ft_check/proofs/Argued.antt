-- What a rule has after its first premises, and arguments put for them.
use Rattle.std.proofs.Common.{◌≡◌, ◌≢◌, ℕ, zero, suc, ◌<◌, ◌≤◌, Bool, true, false, ◌&&◌, Option, Some, None, List, [], ◌∷◌, ◌++◌, refl, sym, ap, ◌∙◌, subst, length, take, drop, get_or, min, nat_lt, arith}
use Rattle.std.specs.Prelude.{option_map, IsSomeAnd}
use Rattle.std.proofs.Math.Bool.{and-false}
use Rattle.std.proofs.lemmas.List.{append-nil, drop_all, length-take, take-append-drop}
use Rattle.std.proofs.lemmas.Option.{same_Some}
use Rattle.ft_common.proofs.Options.{none_some}
use Rattle.ft_theory.specs.Expressions.{Expression, Arguments, instantiate}
use Rattle.ft_theory.specs.Rules.{Rule, instance_of}
use Rattle.ft_theory.specs.Statements.{Statement, plain, map_statement}
use Rattle.ft_items.specs.Item.{Item}
use Rattle.ft_items.specs.Equal.{fit_all, fits, heads, is_plain, is_thesis}
use Rattle.ft_items.specs.Store.{Assertion, Declared, claim_in, declared_by, each, entry_named, metavariable_named, nth, premises_of, rule_named, rules_in, store_of}
use Rattle.ft_items.specs.Rows.{are_arguments, first_premises, next_boundary, statements}
use Rattle.ft_items.specs.Good.{Good}
use Rattle.ft_check.specs.Arguing.{AreTheses, IsAfter, IsLineOf, IsNext, boundary_next, boundary_or}
use Rattle.ft_check.specs.Comparing.{all_same}
use Rattle.ft_check.specs.Entries.{entry_in, line_in, line_of}
use Rattle.ft_check.specs.declared.after.After.{After}
use Rattle.ft_check.specs.declared.compare.Compared.{Compared}
use Rattle.ft_check.specs.declared.entry.Entry.{Entry}
use Rattle.ft_check.specs.declared.entry.RuleLine.{RuleLine}
use Rattle.ft_check.proofs.Applies.{named_rule_stands, no_rule}
use Rattle.ft_check.proofs.Basics.{each_first, named}
use Rattle.ft_check.proofs.Fits.{boundary_kind, each_at, each_length, no_same, yes_same}
use Rattle.ft_check.proofs.GoalsTaken.{rule_known}

-- The line of a rule.
as_plain : (x : Statement) → is_plain x ≡ true → x ≡ plain (claim_in x)
as_plain (plain c) h = refl
as_plain (Rattle.ft_theory.specs.Statements.abstracted A x) h = let clash : false ≡ true = h in cc

pub line_known : (items : List Item) (r : ℕ) (o : Option RuleLine) (R : ℕ × Rule) → Good items
    → rule_named (declared_by items) r ≡ Some R
    → option_map line_in o ≡ option_map line_of (nth (rules_in items) r)
    → IsSomeAnd o (λ x. IsLineOf items x R.1)
line_known items r None R g e h = no_rule items r R g e h
line_known items r (Some x) R g e h =
    let k = rule_known items r x.premises.now x.conclusion R.1 g (named_rule_stands (declared_by items) r R e).1 h in
    record {
      declared = k.line.premises;
      are = record { good = g; are = k.line.are };
      premises = k.premises;
      conclusion = k.line.conclusion;
      is = k.line.is;
      goal = as_plain k.line.conclusion.statement k.line.plain ∙ ap plain (sym k.conclusion);
      kind = k.line.boundary;
    }

-- The first premises and those after them.
premises_drop : (n : ℕ) (ds : List (ℕ × Declared)) → drop n (premises_of ds) ≡ premises_of (drop n ds)
premises_drop zero ds = refl
premises_drop (suc n) [] = refl
premises_drop (suc n) (d ∷ ds) = premises_drop n ds

premises_take : (n : ℕ) (ds : List (ℕ × Declared)) → take n (premises_of ds) ≡ premises_of (take n ds)
premises_take zero ds = refl
premises_take (suc n) [] = refl
premises_take (suc n) (d ∷ ds) = ap (λ qs. (d.0, d.1.boundary) ∷ qs) (premises_take n ds)

premises_length : (ds : List (ℕ × Declared)) → length (premises_of ds) ≡ length ds
premises_length [] = refl
premises_length (d ∷ ds) = ap suc (premises_length ds)

statements_length : (xs : List Assertion) → length (statements xs) ≡ length xs
statements_length [] = refl
statements_length (x ∷ xs) = ap suc (statements_length xs)

each_more : {A B : Type 0} (f : A → Option B) (x : A) (xs : List A) (y : B) (ys : List B) → f x ≡ Some y → each f xs ≡ Some ys → each f (x ∷ xs) ≡ Some (y ∷ ys)
each_more f x xs y ys h k = cc

each_take : {A B : Type 0} (f : A → Option B) (n : ℕ) (xs : List A) (ys : List B) → each f xs ≡ Some ys → each f (take n xs) ≡ Some (take n ys)
each_take f zero xs ys h = refl
each_take f (suc n) [] ys h = ap (λ ys. Some (take (suc n) ys)) (same_Some [] ys h)
each_take f (suc n) (x ∷ xs) ys h =
    let s = each_first f x xs ys h in
    each_more f x (take n xs) s.0 (take n s.1) s.2 (each_take f n xs s.1 s.3) ∙ ap (λ ys. Some (take (suc n) ys)) (sym s.4)

rule_length : (items : List Item) (x : RuleLine) (R : Rule) → IsLineOf items x R → length R.premises ≡ length x.premises.now
rule_length items x R k = ap length k.premises ∙ premises_length k.declared ∙ each_length (metavariable_named (declared_by items)) x.premises.now k.declared k.are.are

-- the boundary then
premise_read : (ts : List Expression) (R : Rule) (n : ℕ) (b : Statement) (o : Option Entry) → option_map (λ e. (entry_in ts e).statement) o ≡ Some b → b ≡ boundary_next R n → is_thesis b ≡ false
    → IsSomeAnd o (λ e. IsNext ts e R n)
premise_read ts R n b None h e k = none_some h
premise_read ts R n b (Some x) h e k =
    let same : (entry_in ts x).statement ≡ b = same_Some (entry_in ts x).statement b h in
    record { is = same ∙ e; kind = ap is_thesis same ∙ k }

pub premise_next : (ts : List Expression) (items : List Item) (x : RuleLine) (R : Rule) (n m : ℕ) (o : Option Entry) → IsLineOf items x R → n < length x.premises.now → m ≡ get_or x.premises.now n 0
    → ((d : Declared) → Good items → nth (declared_by items).metavariables m ≡ Some d → option_map (λ e. (entry_in ts e).statement) o ≡ Some d.boundary)
    → IsSomeAnd o (λ e. IsNext ts e R n)
premise_next ts items x R n m o k l e f =
    let d = each_at (metavariable_named (declared_by items)) x.premises.now k.declared n m k.are.are l e in
    let stands = (named (declared_by items) m d.0 d.1).1 in
    premise_read ts R n d.0.1.boundary o (f d.0.1 k.are.good stands)
    (sym (ap (boundary_or R.conclusion) (ap (drop n) k.premises ∙ premises_drop n k.declared ∙ ap premises_of d.2)))
    (boundary_kind items m d.0.1 k.are.good stands)

conclusion_read : (ts : List Expression) (R : Rule) (n : ℕ) (a : Assertion) (o : Option Entry) → option_map (entry_in ts) o ≡ Some a → a.statement ≡ boundary_next R n → is_thesis a.statement ≡ false
    → IsSomeAnd o (λ e. IsNext ts e R n)
conclusion_read ts R n a None h e k = none_some h
conclusion_read ts R n a (Some x) h e k =
    let same : entry_in ts x ≡ a = same_Some (entry_in ts x) a h in
    record { is = ap (λ (c : Assertion). c.statement) same ∙ e; kind = ap (λ (c : Assertion). is_thesis c.statement) same ∙ k }

pub conclusion_next : (ts : List Expression) (items : List Item) (x : RuleLine) (R : Rule) (n : ℕ) (o : Option Entry) → IsLineOf items x R → length x.premises.now ≤ n
    → option_map (entry_in ts) o ≡ entry_named (store_of items) x.conclusion → IsSomeAnd o (λ e. IsNext ts e R n)
conclusion_next ts items x R n o k l e =
    let over : length R.premises ≤ n = subst (λ m. m ≤ n) (sym (rule_length items x R k)) l in
    conclusion_read ts R n k.conclusion o (e ∙ k.is) (k.goal ∙ sym (ap (boundary_or R.conclusion) (drop_all n R.premises over))) k.kind

pub none_after : {P : Type 0} (Q : Entry → Type 0) (o : Option Entry) → IsSomeAnd o Q → o ≡ None → P
none_after Q o h e = absurd (subst (λ o. IsSomeAnd o Q) e h)

pub no_line : {P : Type 0} (Q : RuleLine → Type 0) (o : Option RuleLine) → IsSomeAnd o Q → o ≡ None → P
no_line Q o h e = absurd (subst (λ o. IsSomeAnd o Q) e h)

pub fewer : (items : List Item) (x : RuleLine) (R : Rule) (n : ℕ) → IsLineOf items x R → length x.premises.now < n → length R.premises < n
fewer items x R n k l = subst (λ m. m < n) (sym (rule_length items x R k)) l

pub after_read : (ts : List Expression) (items : List Item) (x : RuleLine) (R : Rule) (n : ℕ) (y : After) → IsLineOf items x R → y.metavariables.now ≡ take n x.premises.now → IsNext ts y.boundary R n
    → y.is_premise ≡ nat_lt n (length x.premises.now) → IsAfter ts items y R n
after_read ts items x R n y k m b p = record {
  declared = take n k.declared;
  are = record {
    good = k.are.good;
    are = ap (each (metavariable_named (declared_by items))) m ∙ each_take (metavariable_named (declared_by items)) n x.premises.now k.declared k.are.are;
  };
  premises = ap (take n) k.premises ∙ premises_take n k.declared;
  boundary = b;
  more = p ∙ ap (nat_lt n) (sym (rule_length items x R k));
}

-- What has to be the same for arguments.
abbrev pub Fitting : List Expression → Bool → List Compared → List Compared → List (ℕ × Statement) → List Statement → Type 0
Fitting ts y new old qs xs = (j : Expression → Expression) → (y && all_same ts j new) ≡ (all_same ts j old && fit_all (map_statement (λ k. j) zero) qs xs)

pub not_pushed : (ts : List Expression) (j : Expression → Expression) (y : Bool) (new old : List Compared) (d : Bool) → (y && all_same ts j new) ≡ (all_same ts j old && d) → old ≡ [] → y ≡ false → false ≡ d
not_pushed ts j y new old d f e n = no_same y _ _ n f ∙ ap (λ l. all_same ts j l && d) e

pub all_pushed : (ts : List Expression) (j : Expression → Expression) (y b : Bool) (new old : List Compared) (d : Bool) → (y && all_same ts j new) ≡ (all_same ts j old && d) → old ≡ [] → y ≡ true → b ≡ all_same ts j new → b ≡ d
all_pushed ts j y b new old d f e n h = h ∙ yes_same y _ _ n f ∙ ap (λ l. all_same ts j l && d) e

pub not_arguments : (ts : List Expression) (y : Bool) (new old : List Compared) (qs : List (ℕ × Statement)) (xs : List Statement) → Fitting ts y new old qs xs → old ≡ [] → y ≡ false → false ≡ are_arguments qs xs
not_arguments ts y new old qs xs f e n =
    no_same y _ _ n (f (instantiate (instance_of qs (heads xs))))
    ∙ ap (λ l. all_same ts (instantiate (instance_of qs (heads xs))) l && are_arguments qs xs) e

pub arguments_tested : (ts : List Expression) (y b : Bool) (new old : List Compared) (qs : List (ℕ × Statement)) (xs : List Statement) (i : ℕ → ℕ → Option Expression) → Fitting ts y new old qs xs → old ≡ [] → y ≡ true
    → i ≡ instance_of qs (heads xs) → b ≡ all_same ts (instantiate i) new → b ≡ are_arguments qs xs
arguments_tested ts y b new old qs xs i f e n g h =
    h ∙ ap (λ i. all_same ts (instantiate i) new) g
    ∙ yes_same y _ _ n (f (instantiate (instance_of qs (heads xs))))
    ∙ ap (λ l. all_same ts (instantiate (instance_of qs (heads xs))) l && are_arguments qs xs) e

-- The boundary after arguments for the first premises.
pub after_is : (R : Rule) (n : ℕ) (a : Arguments) → next_boundary R (take n R.premises) a (drop n R.premises) ≡ map_statement (λ k. instantiate (instance_of (take n R.premises) a)) zero (boundary_next R n)
after_is R n a = go (drop n R.premises) refl
  where
    go : (qs : List (ℕ × Statement)) → drop n R.premises ≡ qs → next_boundary R (take n R.premises) a qs ≡ map_statement (λ k. instantiate (instance_of (take n R.premises) a)) zero (boundary_or R.conclusion qs)
    go [] e =
        let all : R.premises ≡ take n R.premises = sym (take-append-drop n R.premises) ∙ ap (λ qs. take n R.premises ++ qs) e ∙ append-nil (take n R.premises) in
        ap (λ qs. map_statement (λ k. instantiate (instance_of qs a)) zero (plain R.conclusion)) all
    go (q ∷ qs) e = refl

pub theses_length : (items : List Item) (ps : List ℕ) (xs : List Assertion) → AreTheses items ps xs → length ps ≡ length (statements xs)
theses_length items ps xs h = sym (statements_length xs ∙ each_length (entry_named (store_of items)) ps xs h.are)

fit_others : (i : Statement → Statement) (qs : List (ℕ × Statement)) (xs : List Statement) → length qs ≢ length xs → fit_all i qs xs ≡ false
fit_others i [] [] n = absurd (n refl)
fit_others i [] (x ∷ xs) n = refl
fit_others i (q ∷ qs) [] n = refl
fit_others i (q ∷ qs) (x ∷ xs) n = ap (λ b. fits x (i q.1) && b) (fit_others i qs xs (λ e. n (ap suc e))) ∙ and-false (fits x (i q.1))

pub too_many : (items : List Item) (ps : List ℕ) (xs : List Assertion) (R : Rule) → AreTheses items ps xs → length R.premises < length ps → false ≡ are_arguments (first_premises R (statements xs)) (statements xs)
too_many items ps xs R h l =
    let X = statements xs in
    let same : length ps ≡ length X = theses_length items ps xs h in
    let taken : length (take (length X) R.premises) ≡ min (length X) (length R.premises) = length-take (length X) R.premises in
    sym (fit_others _ (take (length X) R.premises) X (λ e. omega (arith, same, taken, e, l)))
