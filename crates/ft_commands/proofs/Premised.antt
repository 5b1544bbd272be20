-- Premises in turn.
use Rattle.std.proofs.Common.{◌≡◌, ◌∙◌, ◌+◌, ◌<◌, ◌++◌, ℕ, List, [], ◌∷◌, length, get_or, drop, map, ap, ap₂, refl, sym, subst}
use Rattle.std.specs.Prelude.{Option, Some, None, Result, Ok, Err, suc, option_map}
use Rattle.std.proofs.lemmas.List.{drop_more}
use Rattle.ft_items.specs.Item.{Name}
use Rattle.ft_items.specs.Store.{Assertion, Declared, Declarations, add_metavariable}
use Rattle.ft_items.specs.Rows.{atoms}
use Rattle.ft_reference.specs.Declare.{Draft, RuleFault, OpenPremise, outcome, first_outside, next_metavariable}
use Rattle.ft_reference.specs.Nucleus as reference
use Rattle.ft_grammar.specs.declared.syntax.Premise.{Premise as AnyPremise}
use Rattle.ft_grammar.specs.declared.syntax.Body.{Body as AnyBody}
use Rattle.ft_grammar.specs.declared.syntax.Body.TheVariants as body
use Rattle.ft_meaning.specs.Trees.{Premise, premise, Binder, binder}
use Rattle.ft_meaning.specs.Values as meaning
use Rattle.ft_meaning.specs.Values.{Environment, Outcome, Run, after, pure, nucleus, State as Running}
use Rattle.ft_meaning.specs.Forms.{judged}
use Rattle.ft_meaning.specs.Commands.{bind_all, boundary_by, abstract_all, add_premise, after_premise, declare_premises, Bound}
use Rattle.ft_rules.specs.Drafts.{Drafted, met_of}
use Rattle.ft_values.specs.Kept.{stated_at}
use Rattle.ft_values.specs.declared.scopes.Scope.{Scope}
use Rattle.ft_values.specs.declared.values.Value.{Value}
use Rattle.ft_running.specs.declared.ending.End.{End}
use Rattle.ft_running.specs.Evaluation.{Evaluation, IsEvaluation, GoesFurther, run_of, environment_of, value_over, IsScopeIn}
use Rattle.ft_running.specs.Asked.{TellsGoal}
use Rattle.ft_running.specs.Telling.{TellsEnd, TellsValue}
use Rattle.ft_running.specs.Ends.{IsMemory}
use Rattle.ft_running.proofs.Ended.{memory_told}
use Rattle.ft_running.proofs.Further.{further_both, environment_further}
use Rattle.ft_eval.specs.CommandsAsking.{BindersAskNothing, BodyAsksNothing, PremisesAskNothing}
use Rattle.ft_drafting.specs.Drafting.{bounds_over, IsDraftIn, draft_over, TellsStop, TellsPremise}
use Rattle.ft_drafting.specs.declared.stops.Stop.{Stop}
use Rattle.ft_drafting.specs.declared.stops.Stop.TheVariants as stop
use Rattle.ft_drafting.proofs.Staying.{draft_further, draft_same_further, bounds_same_further}
use Rattle.ft_commands.specs.Parts.{body_of, body_place, body_name}
use Rattle.ft_commands.specs.Runs.{premise_boundary, declare_premise}
use Rattle.ft_commands.specs.Telling.{TellsBindings, TellsPremises}
use Rattle.ft_commands.specs.declared.binders.Bindings.{Bindings}
use Rattle.ft_commands.proofs.Claimed.{ends_after}
use Rattle.ft_commands.proofs.Bounded.{follows}
use Rattle.ft_commands.proofs.Binding.{two_parts, three_parts}

-- ---- stops

-- a stop stays one whatever would follow a value
pub stops_after : {A B : Type 0} (o : Outcome A) (f : A → Run B) (s : Stop) (e : Evaluation) → TellsStop o s e → TellsStop (after o f) s e
stops_after o f (stop.Ends end) e h = ends_after o f end e h
stops_after o f (stop.Refuses at why) e h = (h.0, h.1, ap (λ o. after o f) h.2)

-- ---- a premise by its parts

-- the premise as it is written
pub premise_parts : (p : AnyPremise) → premise p
    ≡ record { at = p.at; binders = map binder p.binders; name = body_name p.body; body_at = body_place p.body; body = body_of p.body }
premise_parts p = go p.body
  where
    go : (b : AnyBody) → Rattle.ft_meaning.specs.Trees.premise_by p.at (map binder p.binders) b
        ≡ record { at = p.at; binders = map binder p.binders; name = body_name b; body_at = body_place b; body = body_of b }
    go (body.Type at x) = refl
    go (body.Term at x A) = refl
    go (body.Equation at e f A x) = refl

-- ---- the boundary of a premise

-- the boundary in the scope of the binders, with their variables bound
within : Premise → Environment × List Bound → Run Assertion
within p q = λ s. after (boundary_by p.body_at p.body q.0 s) (λ b. abstract_all q.1 b)

boundary_is : (p : Premise) (G : Environment) (s : Running) → premise_boundary p G s ≡ after (bind_all p.binders G [] s) (within p)
unfolding within
boundary_is p G s = refl

pub boundary_bound : (e f g h : Evaluation) (p : AnyPremise) (s : Scope) (bs : Bindings) (b : ℕ) (r : Result ℕ End)
    → TellsBindings (bind_all (map binder p.binders) (environment_of e s) [] (run_of e)) (Ok bs) f → GoesFurther f g
    → TellsGoal (boundary_by (body_place p.body) (body_of p.body) (environment_of f bs.scope) (run_of f)) (Ok b) g
    → TellsGoal (abstract_all (bounds_over g bs.bounds.items) (stated_at g.list b) (run_of g)) r h
    → TellsGoal (premise_boundary (premise p) (environment_of e s) (run_of e)) r h
unfolding within
boundary_bound e f g h p s bs b r bound on first told =
    subst (λ q. TellsGoal (premise_boundary q (environment_of e s) (run_of e)) r h) (sym (premise_parts p))
    (follows (λ o. TellsGoal o r h) (bind_all (map binder p.binders) (environment_of e s) [] (run_of e))
    (λ q. λ x. after (boundary_by (body_place p.body) (body_of p.body) q.0 x) (λ b. abstract_all q.1 b))
    (environment_of f bs.scope, bounds_over f bs.bounds.items) f bound.0
    (follows (λ o. TellsGoal o r h) (boundary_by (body_place p.body) (body_of p.body) (environment_of f bs.scope) (run_of f))
    (λ b. abstract_all (bounds_over f bs.bounds.items) b) (stated_at g.list b) g first.0
    (subst (λ xs. TellsGoal (abstract_all xs (stated_at g.list b) (run_of g)) r h) (bounds_same_further f g bs.bounds.items on bound.2) told)))

pub binders_end : (e f : Evaluation) (p : AnyPremise) (G : Environment) (end : End)
    → TellsBindings (bind_all (map binder p.binders) G [] (run_of e)) (Err end) f
    → TellsGoal (premise_boundary (premise p) G (run_of e)) (Err end) f
binders_end e f p G end told =
    subst (λ q. TellsEnd (premise_boundary q G (run_of e)) end f) (sym (premise_parts p))
    (ends_after (bind_all (map binder p.binders) G [] (run_of e))
    (λ q. λ x. after (boundary_by (body_place p.body) (body_of p.body) q.0 x) (λ b. abstract_all q.1 b)) end f told)

pub body_ends : (e f g : Evaluation) (p : AnyPremise) (G : Environment) (bs : Bindings) (end : End)
    → TellsBindings (bind_all (map binder p.binders) G [] (run_of e)) (Ok bs) f
    → TellsGoal (boundary_by (body_place p.body) (body_of p.body) (environment_of f bs.scope) (run_of f)) (Err end) g
    → TellsGoal (premise_boundary (premise p) G (run_of e)) (Err end) g
body_ends e f g p G bs end bound told =
    subst (λ q. TellsEnd (premise_boundary q G (run_of e)) end g) (sym (premise_parts p))
    (follows (λ o. TellsEnd o end g) (bind_all (map binder p.binders) G [] (run_of e))
    (λ q. λ x. after (boundary_by (body_place p.body) (body_of p.body) q.0 x) (λ b. abstract_all q.1 b))
    (environment_of f bs.scope, bounds_over f bs.bounds.items) f bound.0
    (ends_after (boundary_by (body_place p.body) (body_of p.body) (environment_of f bs.scope) (run_of f))
    (λ b. abstract_all (bounds_over f bs.bounds.items) b) end g told))

pub binders_ask : (p : AnyPremise) → BindersAskNothing (premise p).binders → BindersAskNothing (map binder p.binders)
binders_ask p h = subst (λ (q : Premise). BindersAskNothing q.binders) (premise_parts p) h

pub body_asks : (p : AnyPremise) → BodyAsksNothing (premise p).body → BodyAsksNothing (body_of p.body)
body_asks p h = subst (λ (q : Premise). BodyAsksNothing q.body) (premise_parts p) h

-- ---- a premise

-- the metavariable at its bound variables, and what is left
ended_by : Premise → Environment → (ℕ × Declared) × Draft → Run (Draft × Environment)
ended_by p G q = λ s. after (judged p.at (λ W. reference.generic W q.0) s) (λ v. pure (q.1, (p.name.name, v) ∷ G))

joined : Premise → Draft → Environment → Assertion → Run (Draft × Environment)
joined p d G b = λ s. after (add_premise p.at d p.name.name b s) (ended_by p G)

premise_is : (p : Premise) (d : Draft) (G : Environment) (s : Running) → declare_premise p d G s ≡ after (premise_boundary p G s) (joined p d G)
unfolding ended_by joined
premise_is p d G s = refl

pub premise_declared : (e f g h k : Evaluation) (p : AnyPremise) (d0 d : Drafted) (s inner : Scope) (b m : ℕ) (v : Value)
    → IsEvaluation e → GoesFurther e f → GoesFurther f g → GoesFurther g h → GoesFurther h k → IsScopeIn e s → IsDraftIn e d0
    → TellsGoal (premise_boundary (premise p) (environment_of e s) (run_of e)) (Ok b) f
    → TellsPremise (add_premise p.at (draft_over f d0) (body_name p.body).name (stated_at f.list b) (run_of f)) (Ok m) d g
    → TellsValue (judged p.at (λ W. reference.generic W (met_of g.list.items m)) (run_of g)) (Ok v) h
    → IsScopeIn k inner → environment_of k inner ≡ ((body_name p.body).name, value_over h v) ∷ environment_of h s → run_of k ≡ run_of h
    → TellsPremises (declare_premise (premise p) (draft_over e d0) (environment_of e s) (run_of e)) (Ok inner) d k
unfolding ended_by joined
premise_declared e f g h k p d0 d s inner b m v is ef fg gh hk scope draft bound added generic within binds run =
    let q : Premise = record { at = p.at; binders = map binder p.binders; name = body_name p.body; body_at = body_place p.body; body = body_of p.body } in
    let G = environment_of e s in
    let eh = further_both e g h (further_both e f g ef fg) gh in
    let gk = further_both g h k gh hk in (
      ap (λ q. declare_premise q (draft_over e d0) G (run_of e)) (premise_parts p)
          ∙ ap (λ o. after o (joined q (draft_over e d0) G)) (ap (λ q. premise_boundary q G (run_of e)) (sym (premise_parts p)) ∙ bound.0)
          ∙ ap (λ x. after (add_premise p.at x (body_name p.body).name (stated_at f.list b) (run_of f)) (ended_by q G)) (sym (draft_same_further e f d0 ef draft))
          ∙ ap (λ o. after o (ended_by q G)) added.0
          ∙ ap (λ o. after o (λ v. pure (draft_over g d, ((body_name p.body).name, v) ∷ G))) generic.0
          ∙ ap₂ (λ D H. (Ok (D, H), run_of h)) (sym (draft_same_further g k d gk added.1))
          (ap (λ H. ((body_name p.body).name, value_over h v) ∷ H) (sym (environment_further e h s is eh scope)) ∙ sym binds)
          ∙ ap (λ x. (Ok (draft_over k d, environment_of k inner), x)) (sym run),
      draft_further g k d gk added.1,
      within,
    )

pub premise_bound_ends : (e f : Evaluation) (p : AnyPremise) (d0 : Draft) (d : Drafted) (G : Environment) (end : End)
    → TellsGoal (premise_boundary (premise p) G (run_of e)) (Err end) f
    → TellsPremises (declare_premise (premise p) d0 G (run_of e)) (Err (stop.Ends end)) d f
unfolding ended_by joined
premise_bound_ends e f p d0 d G end told =
    ends_after (premise_boundary (premise p) G (run_of e)) (joined (premise p) d0 G) end f told

pub premise_stops : (e f g : Evaluation) (p : AnyPremise) (d0 d : Drafted) (s : Scope) (b : ℕ) (x : Stop)
    → GoesFurther e f → IsDraftIn e d0
    → TellsGoal (premise_boundary (premise p) (environment_of e s) (run_of e)) (Ok b) f
    → TellsPremise (add_premise p.at (draft_over f d0) (body_name p.body).name (stated_at f.list b) (run_of f)) (Err x) d g
    → TellsPremises (declare_premise (premise p) (draft_over e d0) (environment_of e s) (run_of e)) (Err x) d g
unfolding ended_by joined
premise_stops e f g p d0 d s b x ef draft bound told =
    let q : Premise = record { at = p.at; binders = map binder p.binders; name = body_name p.body; body_at = body_place p.body; body = body_of p.body } in
    let G = environment_of e s in
    subst (λ o. TellsStop o x g)
    (sym (ap (λ q. declare_premise q (draft_over e d0) G (run_of e)) (premise_parts p)
    ∙ ap (λ o. after o (joined q (draft_over e d0) G)) (ap (λ q. premise_boundary q G (run_of e)) (sym (premise_parts p)) ∙ bound.0)
    ∙ ap (λ y. after (add_premise p.at y (body_name p.body).name (stated_at f.list b) (run_of f)) (ended_by q G)) (sym (draft_same_further e f d0 ef draft))))
    (stops_after (add_premise p.at (draft_over f d0) (body_name p.body).name (stated_at f.list b) (run_of f)) (ended_by q G) x g told)

pub generic_ends : (e f g h : Evaluation) (p : AnyPremise) (d0 d : Drafted) (s : Scope) (b m : ℕ) (end : End)
    → GoesFurther e f → IsDraftIn e d0
    → TellsGoal (premise_boundary (premise p) (environment_of e s) (run_of e)) (Ok b) f
    → TellsPremise (add_premise p.at (draft_over f d0) (body_name p.body).name (stated_at f.list b) (run_of f)) (Ok m) d g
    → TellsValue (judged p.at (λ W. reference.generic W (met_of g.list.items m)) (run_of g)) (Err end) h
    → TellsPremises (declare_premise (premise p) (draft_over e d0) (environment_of e s) (run_of e)) (Err (stop.Ends end)) d h
unfolding ended_by joined
generic_ends e f g h p d0 d s b m end ef draft bound added told =
    let q : Premise = record { at = p.at; binders = map binder p.binders; name = body_name p.body; body_at = body_place p.body; body = body_of p.body } in
    let G = environment_of e s in
    subst (λ o. TellsEnd o end h)
    (sym (ap (λ q. declare_premise q (draft_over e d0) G (run_of e)) (premise_parts p)
    ∙ ap (λ o. after o (joined q (draft_over e d0) G)) (ap (λ q. premise_boundary q G (run_of e)) (sym (premise_parts p)) ∙ bound.0)
    ∙ ap (λ y. after (add_premise p.at y (body_name p.body).name (stated_at f.list b) (run_of f)) (ended_by q G)) (sym (draft_same_further e f d0 ef draft))
    ∙ ap (λ o. after o (ended_by q G)) added.0))
    (ends_after (judged p.at (λ W. reference.generic W (met_of g.list.items m)) (run_of g)) (λ v. pure (draft_over g d, ((body_name p.body).name, v) ∷ G)) end h told)

pub memory_stops : {A : Type 0} (o : Outcome A) (end : End) (e : Evaluation) → IsMemory end → TellsStop o (stop.Ends end) e
memory_stops o end e is = memory_told o end e is

-- ---- the name of a draft

-- the name of the draft in an outcome, or else another
name_in : {A : Type 0} → Outcome (A × Draft) → Name → Name
name_in (Ok p, s) n = p.1.name
name_in (Err e, s) n = n

name_after : (o : Option RuleFault) (W V : Declarations) (d : Draft) (ds : List (ℕ × Declared)) (m : ℕ × Declared) (at : ℕ) (s : Running)
    → name_in (after_premise at (outcome o (W, d) (V, record d { premises = ds }) m) s) d.name ≡ d.name
unfolding name_in
name_after None W V d ds m at s = refl
name_after (Some f) W V d ds m at s = refl

pub name_added : (e f : Evaluation) (at : ℕ) (d0 d : Drafted) (n : Name) (b : Assertion) (m : ℕ)
    → TellsPremise (add_premise at (draft_over e d0) n b (run_of e)) (Ok m) d f → d.name ≡ d0.name
unfolding name_in
name_added e f at d0 d n b m told =
    let D = draft_over e d0 in
    let W = (run_of e).declarations in
    ap (λ o. name_in o d0.name) (sym told.0)
    ∙ name_after (option_map (OpenPremise (suc (length D.premises))) (first_outside (atoms D.premises) b.set)) W
    (add_metavariable W n (Some b)) D (D.premises ++ next_metavariable W n b ∷ []) (next_metavariable W n b) at (run_of e)

-- ---- the first premise

first_premise : (p : Premise) (ps : List Premise) (d : Draft) (G : Environment) (s : Running)
    → declare_premises (p ∷ ps) d G s ≡ after (declare_premise p d G s) (λ q. declare_premises ps q.0 q.1)
unfolding ended_by joined within
first_premise p ps d G s =
    three_parts (bind_all p.binders G [] s) (within p) (joined p d G) all
    (λ q. λ s. after (boundary_by p.body_at p.body q.0 s) (λ b. λ s. after (abstract_all q.1 b s) later)) binders
  where
    all : Draft × Environment → Run (Draft × Environment)
    all q = declare_premises ps q.0 q.1

    later : Assertion → Run (Draft × Environment)
    later c = λ s. after (add_premise p.at d p.name.name c s) (λ q. λ s. after (nucleus p.at (λ W. reference.generic W q.0) s) (λ j. declare_premises ps q.1 ((p.name.name, meaning.judgement j) ∷ G)))

    generic : (q : (ℕ × Declared) × Draft) (s : Running)
        → after (nucleus p.at (λ W. reference.generic W q.0) s) (λ j. declare_premises ps q.1 ((p.name.name, meaning.judgement j) ∷ G))
        ≡ after (ended_by p G q s) all
    generic q s =
        three_parts (nucleus p.at (λ W. reference.generic W q.0) s) (λ j. pure (meaning.judgement j)) (λ v. pure (q.1, (p.name.name, v) ∷ G)) all
        (λ j. declare_premises ps q.1 ((p.name.name, meaning.judgement j) ∷ G)) (λ j s. refl)

    added : (c : Assertion) (s : Running) → later c s ≡ after (joined p d G c s) all
    added c s =
        two_parts (add_premise p.at d p.name.name c s) (ended_by p G) all
        (λ q. λ s. after (nucleus p.at (λ W. reference.generic W q.0) s) (λ j. declare_premises ps q.1 ((p.name.name, meaning.judgement j) ∷ G))) generic

    abstracted : (xs : List Bound) (b : Assertion) (s : Running) → after (abstract_all xs b s) later ≡ after (after (abstract_all xs b s) (joined p d G)) all
    abstracted xs b s = two_parts (abstract_all xs b s) (joined p d G) all later added

    binders : (q : Environment × List Bound) (s : Running)
        → after (boundary_by p.body_at p.body q.0 s) (λ b. λ s. after (abstract_all q.1 b s) later)
        ≡ after (after (within p q s) (joined p d G)) all
    binders q s =
        three_parts (boundary_by p.body_at p.body q.0 s) (λ b. abstract_all q.1 b) (joined p d G) all
        (λ b. λ s. after (abstract_all q.1 b s) later) (λ b s. abstracted q.1 b s)

-- ---- premises in turn

abbrev pub given_by : Evaluation → List AnyPremise → Drafted → Scope → Outcome (Draft × Environment)
given_by S ps d s = declare_premises (map premise ps) (draft_over S d) (environment_of S s) (run_of S)

-- From the state S on, all premises before the rest have joined the draft; the state is T.
pub record Drafts (S T : Evaluation) (all rest : List AnyPremise) (d0 d : Drafted) (outer s : Scope) : Type 0 where
  pub further : GoesFurther S T
  pub scope : IsScopeIn T s
  pub draft : IsDraftIn T d
  pub name : d.name ≡ d0.name
  pub same : given_by T rest d s ≡ given_by S all d0 outer
  pub asks : PremisesAskNothing (map premise rest)

pub rest_is : (ps : List AnyPremise) (i : ℕ) (p : AnyPremise) → p ≡ get_or ps i p → i < length ps → drop i ps ≡ p ∷ drop (i + 1) ps
rest_is ps i p is l = drop_more ps i p l ∙ ap (λ x. x ∷ drop (i + 1) ps) (sym is)

pub drafts_on : (S T U : Evaluation) (all : List AnyPremise) (p : AnyPremise) (rest : List AnyPremise) (d0 d e : Drafted) (outer s inner : Scope)
    → Drafts S T all (p ∷ rest) d0 d outer s → GoesFurther T U
    → TellsPremises (declare_premise (premise p) (draft_over T d) (environment_of T s) (run_of T)) (Ok inner) e U → e.name ≡ d.name
    → Drafts S U all rest d0 e outer inner
drafts_on S T U all p rest d0 d e outer s inner h on told name = record {
  further = further_both S T U h.further on;
  scope = told.2;
  draft = told.1;
  name = name ∙ h.name;
  same =
      ap (λ o. after o (λ q. declare_premises (map premise rest) q.0 q.1)) (sym told.0)
      ∙ sym (first_premise (premise p) (map premise rest) (draft_over T d) (environment_of T s) (run_of T))
      ∙ h.same;
  asks = h.asks.1;
}

pub drafts_stop : (S T U : Evaluation) (all : List AnyPremise) (p : AnyPremise) (rest : List AnyPremise) (d0 d e : Drafted) (outer s : Scope) (x : Stop)
    → Drafts S T all (p ∷ rest) d0 d outer s
    → TellsPremises (declare_premise (premise p) (draft_over T d) (environment_of T s) (run_of T)) (Err x) e U
    → TellsPremises (given_by S all d0 outer) (Err x) e U
drafts_stop S T U all p rest d0 d e outer s x h told =
    subst (λ o. TellsStop o x U)
    (sym (first_premise (premise p) (map premise rest) (draft_over T d) (environment_of T s) (run_of T)) ∙ h.same)
    (stops_after (declare_premise (premise p) (draft_over T d) (environment_of T s) (run_of T)) (λ q. declare_premises (map premise rest) q.0 q.1) x U told)

pub drafts_done : (S T : Evaluation) (all rest : List AnyPremise) (d0 d : Drafted) (outer s : Scope)
    → Drafts S T all rest d0 d outer s → rest ≡ [] → TellsPremises (given_by S all d0 outer) (Ok s) d T
drafts_done S T all rest d0 d outer s h none =
    (subst (λ rest. given_by T rest d s ≡ given_by S all d0 outer → given_by S all d0 outer ≡ (Ok (draft_over T d, environment_of T s), run_of T)) (sym none) (λ same. sym same) h.same, h.draft, h.scope)
