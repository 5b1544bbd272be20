-- Rules that are declared.
use Rattle.std.proofs.Common.{◌≡◌, ◌∙◌, ◌++◌, ℕ, List, [], ◌∷◌, length, map, ap, ap₂, sym, refl, subst, Some, None}
use Rattle.std.specs.Prelude.{Option, Result, Ok, Err}
use Rattle.ft_theory.specs.Rules.{Rule}
use Rattle.ft_items.specs.Item.{Item, Name, rule}
use Rattle.ft_items.specs.Store.{Assertion, Declarations, declared_by, declared_rule, add_rule}
use Rattle.ft_reference.specs.Declare.{Draft, RuleFault, outcome, begin, finish, next_rule, first_of, name_fault, first_outside}
use Rattle.ft_reference.specs.Declare as reference
use Rattle.ft_grammar.specs.declared.syntax.Named.{Named}
use Rattle.ft_grammar.specs.declared.syntax.Premise.{Premise as AnyPremise}
use Rattle.ft_kernel.specs.State.{State}
use Rattle.ft_calls.proofs.Answering.{entry_in}
use Rattle.ft_meaning.specs.Trees.{Body, premise}
use Rattle.ft_meaning.specs.Values.{Outcome, Run, after, pure, declare, after_declaration, OfRule, State as Running}
use Rattle.ft_meaning.specs.Commands.{boundary_by, declare_premises, declare_rule}
use Rattle.ft_meaning.specs.Events.{declares, told_rule}
use Rattle.ft_rules.specs.Drafts.{Drafted}
use Rattle.ft_rules.proofs.Mets.{named}
use Rattle.ft_values.specs.Kept.{HasMore, stated, stated_at}
use Rattle.ft_values.specs.Named.{environment_in, NamesBelow}
use Rattle.ft_values.specs.Rows.{kept_in}
use Rattle.ft_values.proofs.Staying.{value_stays}
use Rattle.ft_values.specs.declared.scopes.Scope.{Scope}
use Rattle.ft_values.specs.declared.scopes.Scope.TheVariants.{Top}
use Rattle.ft_values.specs.declared.values.Value.{Value}
use Rattle.ft_running.specs.declared.ending.End.{End}
use Rattle.ft_running.specs.Evaluation.{Evaluation, IsEvaluation, GoesFurther, run_of, environment_of, value_over, names_over, IsValueOf, IsScopeIn, with_list}
use Rattle.ft_running.specs.Asked.{TellsGoal}
use Rattle.ft_running.specs.Telling.{TellsEnd}
use Rattle.ft_running.proofs.Further.{further_both, environment_further, over_value, all_names_below}
use Rattle.ft_drafting.specs.Drafting.{draft_over, with_rule, TellsDraft, TellsRule, TellsStop}
use Rattle.ft_drafting.specs.declared.stops.Stop.{Stop}
use Rattle.ft_drafting.specs.declared.stops.Stop.TheVariants as stop
use Rattle.ft_drafting.proofs.Staying.{draft_further, draft_same_further}
use Rattle.ft_commands.specs.Telling.{TellsPremises}
use Rattle.ft_commands.specs.Doing.{named_in, TellsAccepted}
use Rattle.ft_commands.proofs.Claimed.{ends_after}
use Rattle.ft_commands.proofs.Premised.{stops_after}
use Rattle.ft_commands.proofs.Marks.{more_tell}

-- ---- names over a longer list

value_more : (e : Evaluation) (t : State) (v : Value) → IsEvaluation e → HasMore e.list t → IsValueOf e v → value_over (with_list t e) v ≡ value_over e v
value_more e t v is m b = value_stays e.list t (kept_in e.values v) m (over_value e.list e.values v is.values_over b)

names_more : (e : Evaluation) (t : State) (ns : List (Name × Value)) → IsEvaluation e → HasMore e.list t → NamesBelow (length e.values) ns
    → environment_in t e.values ns ≡ environment_in e.list e.values ns
names_more e t [] is m h = refl
names_more e t (p ∷ ps) is m h = ap₂ (λ v G. (p.0, v) ∷ G) (value_more e t p.1 is m h.0) (names_more e t ps is m h.1)

pub environment_more : (e : Evaluation) (t : State) (s : Scope) → IsEvaluation e → HasMore e.list t → IsScopeIn e s
    → environment_of (with_list t e) s ≡ environment_of e s
environment_more e t s is m w = names_more e t (names_over e s) is m (all_names_below e s is w)

-- ---- what is declared

-- the rule of an outcome, or else another
rule_of : Outcome (ℕ × Rule) → Rule → Rule
rule_of (Ok p, s) x = p.1
rule_of (Err e, s) x = x

by_fault : (o : Option RuleFault) (W V U : Declarations) (r : ℕ) (x : Rule) (at : ℕ) (s : Running)
    → rule_of (after_declaration OfRule at U (outcome o W V (r, x)).answer s) x ≡ x
unfolding rule_of
by_fault None W V U r x at s = refl
by_fault (Some f) W V U r x at s = refl

-- the rule is that of the draft with its conclusion
rule_made : (W : Declarations) (d : Draft) (c : Assertion) (at r : ℕ) (R : Rule) (s t : Running)
    → after_declaration OfRule at (finish W d c).after (finish W d c).answer s ≡ (Ok (r, R), t) → R ≡ declared_rule d.premises c
unfolding rule_of
rule_made W d c at r R s t h =
    ap (λ o. rule_of o (declared_rule d.premises c)) (sym h)
    ∙ by_fault (first_of (name_fault W d.name) (Rattle.std.specs.Prelude.option_map reference.OpenConclusion (first_outside (Rattle.ft_items.specs.Rows.atoms d.premises) c.set)))
    W (add_rule W d.name (Some d.premises) (Some c)) (finish W d c).after (length W.rules) (declared_rule d.premises c) at s

-- the name of the draft in an outcome, or else another
name_in : Outcome Draft → Name → Name
name_in (Ok d, s) n = d.name
name_in (Err e, s) n = n

name_after : (o : Option RuleFault) (W U : Declarations) (n : Name) (at : ℕ) (s : Running)
    → name_in (after_declaration OfRule at U (outcome o W W (record { name = n; premises = [] })).answer s) n ≡ n
unfolding name_in
name_after None W U n at s = refl
name_after (Some f) W U n at s = refl

name_begun : (e : Evaluation) (n : Named) (d : Drafted) → TellsDraft (declare OfRule n.at (λ W. begin W n.name) (run_of e)) (Ok d) e → d.name ≡ n.name
unfolding name_in
name_begun e n d told =
    let W = (run_of e).declarations in
    ap (λ o. name_in o n.name) (sym told.0) ∙ name_after (name_fault W n.name) W (begin W n.name).after n.name n.at (run_of e)

-- ---- the whole

-- the finishing of a draft
finishes : ℕ → Draft → Assertion → Run Rule
finishes at d b = λ s. after (declare OfRule at (λ W. finish W d b) s) (λ R. pure R.1)

-- the run up to the finishing of the draft
reached : (e f g : Evaluation) (n : Named) (ps : List AnyPremise) (at : ℕ) (c : Body) (d0 d : Drafted) (s : Scope) (b : ℕ)
    → TellsDraft (declare OfRule n.at (λ W. begin W n.name) (run_of e)) (Ok d0) e
    → TellsPremises (declare_premises (map premise ps) (draft_over e d0) (named_in e) (run_of e)) (Ok s) d f
    → TellsGoal (boundary_by at c (environment_of f s) (run_of f)) (Ok b) g → GoesFurther f g
    → declare_rule n (map premise ps) at c (named_in e) (run_of e) ≡ finishes at (draft_over g d) (stated_at g.list b) (run_of g)
unfolding finishes
reached e f g n ps at c d0 d s b begun told bound on =
    ap (λ o. after o (λ d. λ x. after (declare_premises (map premise ps) d (named_in e) x) (λ q. λ x. after (boundary_by at c q.1 x) (λ b. λ x. after (declare OfRule at (λ W. finish W q.0 b) x) (λ R. pure R.1))))) begun.0
    ∙ ap (λ o. after o (λ q. λ x. after (boundary_by at c q.1 x) (λ b. λ x. after (declare OfRule at (λ W. finish W q.0 b) x) (λ R. pure R.1)))) told.0
    ∙ ap (λ o. after o (λ b. λ x. after (declare OfRule at (λ W. finish W (draft_over f d) b) x) (λ R. pure R.1))) bound.0
    ∙ ap (λ D. finishes at D (stated_at g.list b) (run_of g)) (sym (draft_same_further f g d on told.1))

pub rule_accepted : (e f g h : Evaluation) (n : Named) (ps : List AnyPremise) (at : ℕ) (c : Body) (d0 d : Drafted) (s : Scope) (b r : ℕ)
    → TellsDraft (declare OfRule n.at (λ W. begin W n.name) (run_of e)) (Ok d0) e
    → TellsPremises (declare_premises (map premise ps) (draft_over e d0) (environment_of e Top) (run_of e)) (Ok s) d f
    → GoesFurther e f → TellsGoal (boundary_by at c (environment_of f s) (run_of f)) (Ok b) g → GoesFurther f g
    → TellsRule (declare OfRule at (λ W. finish W (draft_over g d) (stated_at g.list b)) (run_of g)) (Ok r) h
    → h ≡ with_rule d b g → IsEvaluation e → IsEvaluation g → d.name ≡ d0.name
    → TellsAccepted (declare_rule n (map premise ps) at c (named_in e) (run_of e)) n.name e (Ok tt) h
unfolding finishes
rule_accepted e f g h n ps at c d0 d s b r begun told ef bound fg made is was now same =
    let name : d.name ≡ n.name = same ∙ name_begun e n d0 begun in
    let eg = further_both e f g ef fg in
    let D = draft_over g d in
    let a = stated_at g.list b in
    let draft = draft_further f g d fg told.1 in
    let i : Item = rule d.name d.premises b in (
      made.0,
      reached e f g n ps at c d0 d s b begun told bound fg ∙ ap (λ o. after o (λ R. pure R.1)) made.1,
      ap named_in is ∙ environment_more g (with_rule d b g).list Top now (i ∷ [], refl) tt ∙ environment_further e g Top was eg tt,
      more_tell e.list g.list h.list (i ∷ []) (declares n.name made.0 ∷ []) eg.list (ap (λ (x : Evaluation). x.list.items) is)
          (ap (λ ts. ts ++ [])
          (ap₂ (told_rule d.name) (named g.list.items d draft) (entry_in g.list b bound.1.0 bound.1.1 ∙ ap (λ (a : Assertion). Some a) (sym (ap stated bound.1.1)))
          ∙ ap₂ (λ x R. declares x R ∷ []) name (sym (rule_made (declared_by g.list.items) D a at r made.0 (run_of g) (run_of h) made.1)))),
    )

pub begin_stops : (e : Evaluation) (n : Named) (ps : List AnyPremise) (at : ℕ) (c : Body) (x : Stop)
    → TellsDraft (declare OfRule n.at (λ W. begin W n.name) (run_of e)) (Err x) e
    → TellsAccepted (declare_rule n (map premise ps) at c (named_in e) (run_of e)) n.name e (Err x) e
begin_stops e n ps at c x told =
    stops_after (declare OfRule n.at (λ W. begin W n.name) (run_of e))
    (λ d. λ x. after (declare_premises (map premise ps) d (named_in e) x) (λ q. λ x. after (boundary_by at c q.1 x) (λ b. λ x. after (declare OfRule at (λ W. finish W q.0 b) x) (λ R. pure R.1)))) x e told

pub premises_stop : (e f : Evaluation) (n : Named) (ps : List AnyPremise) (at : ℕ) (c : Body) (d0 d : Drafted) (x : Stop)
    → TellsDraft (declare OfRule n.at (λ W. begin W n.name) (run_of e)) (Ok d0) e
    → TellsPremises (declare_premises (map premise ps) (draft_over e d0) (environment_of e Top) (run_of e)) (Err x) d f
    → TellsAccepted (declare_rule n (map premise ps) at c (named_in e) (run_of e)) n.name e (Err x) f
premises_stop e f n ps at c d0 d x begun told =
    subst (λ o. TellsStop (after o (λ d. λ x. after (declare_premises (map premise ps) d (named_in e) x) (λ q. λ x. after (boundary_by at c q.1 x) (λ b. λ x. after (declare OfRule at (λ W. finish W q.0 b) x) (λ R. pure R.1))))) x f) (sym begun.0)
    (stops_after (declare_premises (map premise ps) (draft_over e d0) (named_in e) (run_of e))
    (λ q. λ x. after (boundary_by at c q.1 x) (λ b. λ x. after (declare OfRule at (λ W. finish W q.0 b) x) (λ R. pure R.1))) x f told)

pub conclusion_ends : (e f g : Evaluation) (n : Named) (ps : List AnyPremise) (at : ℕ) (c : Body) (d0 d : Drafted) (s : Scope) (end : End)
    → TellsDraft (declare OfRule n.at (λ W. begin W n.name) (run_of e)) (Ok d0) e
    → TellsPremises (declare_premises (map premise ps) (draft_over e d0) (environment_of e Top) (run_of e)) (Ok s) d f
    → TellsGoal (boundary_by at c (environment_of f s) (run_of f)) (Err end) g
    → TellsAccepted (declare_rule n (map premise ps) at c (named_in e) (run_of e)) n.name e (Err (stop.Ends end)) g
conclusion_ends e f g n ps at c d0 d s end begun told ends =
    subst (λ o. TellsEnd o end g)
    (sym (ap (λ o. after o (λ d. λ x. after (declare_premises (map premise ps) d (named_in e) x) (λ q. λ x. after (boundary_by at c q.1 x) (λ b. λ x. after (declare OfRule at (λ W. finish W q.0 b) x) (λ R. pure R.1))))) begun.0
    ∙ ap (λ o. after o (λ q. λ x. after (boundary_by at c q.1 x) (λ b. λ x. after (declare OfRule at (λ W. finish W q.0 b) x) (λ R. pure R.1)))) told.0))
    (ends_after (boundary_by at c (environment_of f s) (run_of f)) (λ b. λ x. after (declare OfRule at (λ W. finish W (draft_over f d) b) x) (λ R. pure R.1)) end g ends)

pub finish_stops : (e f g h : Evaluation) (n : Named) (ps : List AnyPremise) (at : ℕ) (c : Body) (d0 d : Drafted) (s : Scope) (b : ℕ) (x : Stop)
    → TellsDraft (declare OfRule n.at (λ W. begin W n.name) (run_of e)) (Ok d0) e
    → TellsPremises (declare_premises (map premise ps) (draft_over e d0) (environment_of e Top) (run_of e)) (Ok s) d f
    → TellsGoal (boundary_by at c (environment_of f s) (run_of f)) (Ok b) g → GoesFurther f g
    → TellsRule (declare OfRule at (λ W. finish W (draft_over g d) (stated_at g.list b)) (run_of g)) (Err x) h
    → TellsAccepted (declare_rule n (map premise ps) at c (named_in e) (run_of e)) n.name e (Err x) h
unfolding finishes
finish_stops e f g h n ps at c d0 d s b x begun told bound fg made =
    subst (λ o. TellsStop o x h) (sym (reached e f g n ps at c d0 d s b begun told bound fg))
    (stops_after (declare OfRule at (λ W. finish W (draft_over g d) (stated_at g.list b)) (run_of g)) (λ R. pure R.1) x h made)
