-- What each frame makes of an outcome, in the words of the meaning.
use Rattle.std.proofs.Common.{◌≡◌, ◌∙◌, ℕ, List, [], ◌∷◌, ◌++◌, ap, sym, refl, subst, Some, Ok, Err, map}
use Rattle.ft_grammar.specs.declared.syntax.ValCase.{ValCase}
use Rattle.ft_eval.specs.Asking.{AsksNothing, ValueCaseAsksNothing}
use Rattle.ft_reference.specs.Nucleus as reference
use Rattle.ft_theory.specs.Rules.{Rule}
use Rattle.ft_items.specs.Item.{Name}
use Rattle.ft_items.specs.Store.{Assertion, Annotation}
use Rattle.ft_telling.specs.Telling.{variable_at}
use Rattle.ft_grammar.specs.declared.form.OneForm.{OneForm}
use Rattle.ft_meaning.specs.Trees.{form, forms, handlers, cases, no_value_case, value_case_of}
use Rattle.ft_meaning.specs.Values.{Environment, Outcome, Run, after, ◌>>=◌, pure, end, performs, halts, nucleus, as_judgement, State as Running}
use Rattle.ft_meaning.specs.Values as meaning
use Rattle.ft_meaning.specs.Forms.{branch, first_match, of_value, of_operation, handled, make_variable, abstract_value, word_at, fitting, applied, substitute_value, substituted}
use Rattle.ft_meaning.proofs.Written.{case, handler, value, value_parts}
use Rattle.ft_running.specs.Evaluation.{Evaluation, value_over}
use Rattle.ft_running.specs.Asked.{new_term, next_argument, argument_at, put_at, rule_in, judgements_of}
use Rattle.ft_eval.specs.declared.frames.Work.{Work}
use Rattle.ft_eval.specs.declared.frames.Work.TheVariants as work
use Rattle.ft_eval.specs.declared.frames.Arguments.{Arguments}
use Rattle.ft_eval.specs.Frames.{follows, handlers_of, passed_by, value_of, made, abstracted, argued, applied_to, filled, filled_in}
use Rattle.ft_eval.proofs.Chains.{after_after, after_same}
use Rattle.ft_eval.proofs.Passing.{passed_after}

-- a `handle` without a case for values
pub waits_handle : (S : Evaluation) (w : Work) (G : Environment) (o : Outcome meaning.Value)
    → ((v : meaning.Value) (s : Running) → follows S w G v s ≡ (Ok v, s))
    → passed_by S w G o
    ≡ handled (λ v. of_value no_value_case v G) (λ op v p. of_operation (handlers (handlers_of w)) op v p G) o
waits_handle S w G (Ok v, s) h = h v s
waits_handle S w G (Err (performs op v at), s) h = refl
waits_handle S w G (Err (halts q), s) h = refl

-- one with it
pub waits_handle_value : (S : Evaluation) (w : Work) (G : Environment) (o : Outcome meaning.Value) (k : meaning.Value → Run meaning.Value)
    → ((v : meaning.Value) (s : Running) → follows S w G v s ≡ k v s)
    → passed_by S w G o
    ≡ handled k (λ op v p. of_operation (handlers (handlers_of w)) op v p G) o
waits_handle_value S w G (Ok v, s) k h = h v s
waits_handle_value S w G (Err (performs op v at), s) k h = refl
waits_handle_value S w G (Err (halts q), s) k h = refl

-- an abstraction, step by step
pub term_in_steps : (at : ℕ) (x : Name) (v : meaning.Value) (k : (ℕ × Annotation) × meaning.Value → Run meaning.Value) (s : Running)
    → (as_judgement v >>= λ A. make_variable at x A >>= λ y. nucleus at (λ W. reference.variable W y) >>= λ j. k (y, meaning.judgement j)) s
    ≡ (new_term at x v >>= k) s
term_in_steps at x v k s =
    sym (after_after (as_judgement v s) (λ A. make_variable at x A >>= λ y. nucleus at (λ W. reference.variable W y) >>= λ j. pure (y, meaning.judgement j)) k
    ∙ after_same (as_judgement v s)
    (λ A s. after ((make_variable at x A >>= λ y. nucleus at (λ W. reference.variable W y) >>= λ j. pure (y, meaning.judgement j)) s) k)
    (λ A. make_variable at x A >>= λ y. nucleus at (λ W. reference.variable W y) >>= λ j. k (y, meaning.judgement j))
    (λ A s. after_after (make_variable at x A s) (λ y. nucleus at (λ W. reference.variable W y) >>= λ j. pure (y, meaning.judgement j)) k
    ∙ after_same (make_variable at x A s)
    (λ y s. after ((nucleus at (λ W. reference.variable W y) >>= λ j. pure (y, meaning.judgement j)) s) k)
    (λ y. nucleus at (λ W. reference.variable W y) >>= λ j. k (y, meaning.judgement j))
    (λ y s. after_after (nucleus at (λ W. reference.variable W y) s) (λ j. pure (y, meaning.judgement j)) k)))

-- an argument of a rule, step by step
pub argument_in_steps : (at : ℕ) (R : ℕ × Rule) (js : List Assertion) (v : meaning.Value) (k : Assertion → Run meaning.Value) (s : Running)
    → (as_judgement v >>= λ j. nucleus at (λ W. reference.next_boundary W R js) >>= λ b. fitting at j b >>= k) s
    ≡ (next_argument at R js v >>= k) s
argument_in_steps at R js v k s =
    sym (after_after (as_judgement v s) (λ j. nucleus at (λ W. reference.next_boundary W R js) >>= λ b. fitting at j b) k
    ∙ after_same (as_judgement v s)
    (λ j s. after ((nucleus at (λ W. reference.next_boundary W R js) >>= λ b. fitting at j b) s) k)
    (λ j. nucleus at (λ W. reference.next_boundary W R js) >>= λ b. fitting at j b >>= k)
    (λ j s. after_after (nucleus at (λ W. reference.next_boundary W R js) s) (λ b. fitting at j b) k))

-- a term put into a value, step by step
pub put_in_steps : (at : ℕ) (v u : meaning.Value) (k : meaning.Value → Run meaning.Value) (s : Running)
    → (as_judgement u >>= λ t. substitute_value at v t >>= k) s ≡ (put_at at v u >>= k) s
put_in_steps at v u k s = sym (after_after (as_judgement u s) (λ t. substitute_value at v t) k)

-- ---- frames, each by what the meaning does

pub waits_let : (S : Evaluation) (x f : _) (G : Environment) (o : Outcome meaning.Value)
    → passed_by S (work.Let x f) G o ≡ after o (λ v. value_of f.now ((x.now.name, v) ∷ G))
waits_let S x f G o = passed_after S (work.Let x f) G o refl

pub waits_branches : (S : Evaluation) (f g : _) (G : Environment) (o : Outcome meaning.Value)
    → passed_by S (work.Branches f g) G o ≡ after o (λ v. branch v (value_of f.now G) (value_of g.now G))
waits_branches S f g G o = passed_after S (work.Branches f g) G o refl

pub waits_cases : (S : Evaluation) (at : ℕ) (cs : _) (G : Environment) (o : Outcome meaning.Value)
    → passed_by S (work.Cases at cs) G o ≡ after o (λ v. first_match at (cases (map case cs.now)) v G)
waits_cases S at cs G o = passed_after S (work.Cases at cs) G o refl

pub waits_domain : (S : Evaluation) (at : ℕ) (x f : _) (G : Environment) (o : Outcome meaning.Value)
    → passed_by S (work.Domain at x f) G o
    ≡ after o (λ v. as_judgement v >>= λ A. make_variable at x.now.name A >>= λ y. nucleus at (λ W. reference.variable W y) >>= λ j.
    value_of f.now ((x.now.name, meaning.judgement j) ∷ G) >>= λ w. abstract_value at y w)
waits_domain S at x f G o =
    passed_after S (work.Domain at x f) G o refl
    ∙ sym (after_same o
    (λ v. as_judgement v >>= λ A. make_variable at x.now.name A >>= λ y. nucleus at (λ W. reference.variable W y) >>= λ j.
    value_of f.now ((x.now.name, meaning.judgement j) ∷ G) >>= λ w. abstract_value at y w)
    (abstracted at x.now.name f.now G)
    (λ v s. term_in_steps at x.now.name v (λ y. value_of f.now ((x.now.name, y.1) ∷ G) >>= λ w. abstract_value at y.0 w) s))

pub waits_second : (S : Evaluation) (p f : _) (G : Environment) (o : Outcome meaning.Value)
    → passed_by S (work.Second p f) G o ≡ after o (λ v. value_of f.now G >>= λ w. made p v w)
waits_second S p f G o = passed_after S (work.Second p f) G o refl

pub waits_both : (S : Evaluation) (p v : _) (G : Environment) (o : Outcome meaning.Value)
    → passed_by S (work.Both p v) G o ≡ after o (λ w. made p (value_over S v) w)
waits_both S p v G o = passed_after S (work.Both p v) G o refl

pub waits_word : (S : Evaluation) (at : ℕ) (word : OneForm) (G : Environment) (o : Outcome meaning.Value)
    → passed_by S (work.Word at word) G o ≡ after o (λ v. word_at at word v)
waits_word S at word G o = passed_after S (work.Word at word) G o refl

pub waits_argument : (S : Evaluation) (at i : ℕ) (G : Environment) (o : Outcome meaning.Value)
    → passed_by S (work.Argument at i) G o ≡ after o (λ v. argument_at at i v)
waits_argument S at i G o = passed_after S (work.Argument at i) G o refl

pub waits_perform : (S : Evaluation) (at : ℕ) (op : _) (G : Environment) (o : Outcome meaning.Value)
    → passed_by S (work.Perform at op) G o ≡ after o (λ v. end (performs op.now.name v at))
waits_perform S at op G o = passed_after S (work.Perform at op) G o refl

pub waits_bind : (S : Evaluation) (at y : ℕ) (G : Environment) (o : Outcome meaning.Value)
    → passed_by S (work.Bind at y) G o ≡ after o (λ w. abstract_value at (variable_at S.list y) w)
waits_bind S at y G o = passed_after S (work.Bind at y) G o refl

pub waits_terms : (S : Evaluation) (at : ℕ) (es : _) (G : Environment) (o : Outcome meaning.Value)
    → passed_by S (work.Terms at es) G o ≡ after o (λ v. substituted at (forms (map form es.now)) v G)
waits_terms S at es G o = passed_after S (work.Terms at es) G o refl

pub waits_term : (S : Evaluation) (at : ℕ) (v es : _) (G : Environment) (o : Outcome meaning.Value)
    → passed_by S (work.Term at v es) G o
    ≡ after o (λ u. as_judgement u >>= λ t. substitute_value at (value_over S v) t >>= λ w. substituted at (forms (map form es.now)) w G)
waits_term S at v es G o =
    passed_after S (work.Term at v es) G o refl
    ∙ sym (after_same o
    (λ u. as_judgement u >>= λ t. substitute_value at (value_over S v) t >>= λ w. substituted at (forms (map form es.now)) w G)
    (filled_in at (value_over S v) es.now G)
    (λ u s. put_in_steps at (value_over S v) u (filled at es.now G) s))

pub waits_premise : (S : Evaluation) (a : Arguments) (G : Environment) (o : Outcome meaning.Value)
    → passed_by S (work.Premise a) G o
    ≡ after o (λ v. as_judgement v >>= λ j. nucleus a.place (λ W. reference.next_boundary W (rule_in S a.rule) (judgements_of S a.given.items)) >>= λ b.
    fitting a.place j b >>= λ k. applied a.at (rule_in S a.rule) (forms (map form a.rest.now)) G (judgements_of S a.given.items ++ k ∷ []))
waits_premise S a G o =
    passed_after S (work.Premise a) G o refl
    ∙ sym (after_same o
    (λ v. as_judgement v >>= λ j. nucleus a.place (λ W. reference.next_boundary W (rule_in S a.rule) (judgements_of S a.given.items)) >>= λ b.
    fitting a.place j b >>= λ k. applied a.at (rule_in S a.rule) (forms (map form a.rest.now)) G (judgements_of S a.given.items ++ k ∷ []))
    (argued S a G)
    (λ v s. argument_in_steps a.place (rule_in S a.rule) (judgements_of S a.given.items) v (λ k. applied_to S a.at a.rule (judgements_of S a.given.items ++ k ∷ []) a.rest.now G) s))

-- a `handle` without a case for values, as the meaning has it
pub handle_waits : (S : Evaluation) (hs : _) (G : Environment) (o : Outcome meaning.Value)
    → passed_by S (work.Handle hs) G o
    ≡ handled (λ v. of_value no_value_case v G) (λ op v p. of_operation (handlers (map handler hs.now)) op v p G) o
handle_waits S hs G o = waits_handle S (work.Handle hs) G o (λ v s. refl)

-- one with a case for values
pub handle_value_waits : (S : Evaluation) (c hs : _) (G : Environment) (o : Outcome meaning.Value)
    → passed_by S (work.HandleValue c hs) G o
    ≡ handled (λ v. of_value (value_case_of (Some (value c.now))) v G) (λ op v p. of_operation (handlers (map handler hs.now)) op v p G) o
handle_value_waits S c hs G o =
    waits_handle_value S (work.HandleValue c hs) G o (λ v. of_value (value_case_of (Some (value c.now))) v G)
    (λ v s. ap (λ p. of_value (value_case_of (Some p)) v G s) (sym (value_parts c.now)))

pub value_asks : (c : ValCase) → ValueCaseAsksNothing (value_case_of (Some (value c)))
    → AsksNothing (form c.body)
value_asks c h = subst (λ p. AsksNothing p.1) (value_parts c) h
