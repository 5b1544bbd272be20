-- Rules that are drafted premise by premise, as runs of the meaning.
use Rattle.std.proofs.Common.{◌≡◌, ◌∙◌, ◌<◌, ◌++◌, ℕ, Option, Some, None, [], ◌∷◌, length, ap, ap₂, refl, sym, subst, arith, append-nil}
use Rattle.std.specs.Prelude.{Result, Ok, Err}
use Rattle.ft_theory.specs.Rules.{Rule}
use Rattle.ft_items.specs.Item.{Name, Item, metavariable, rule}
use Rattle.ft_items.specs.Store.{Assertion, Declared, Declarations, declared_by, declared_rule, variables_in, metavariables_in}
use Rattle.ft_reference.specs.Declare as reference
use Rattle.ft_reference.specs.Declare.{outcome, name_fault}
use Rattle.ft_assume.specs.Atoms.{atom_of}
use Rattle.ft_kernel.specs.State.{State, with_item, next_number}
use Rattle.ft_meaning.specs.Values as meaning
use Rattle.ft_meaning.specs.Values.{OfRule, fails, halts, after_declaration, declare}
use Rattle.ft_meaning.specs.Commands.{add_premise, after_premise}
use Rattle.ft_rules.specs.Drafts.{Drafted, IsDraftOver}
use Rattle.ft_rules.specs.Answers.{Refuses, Begins, Premises, premise_in, Finishes, finish_in}
use Rattle.ft_rules.specs.declared.fault.RuleFault.{RuleFault}
use Rattle.ft_rules.specs.declared.fault.RuleFault.TheVariants as fault
use Rattle.ft_values.specs.Kept.{stated, stated_at, HasMore}
use Rattle.ft_calling.proofs.Leaving.{variables_append}
use Rattle.ft_running.specs.Evaluation.{Evaluation, IsEvaluation, GoesFurther, run_of, with_list}
use Rattle.ft_running.proofs.Ended.{memory_told}
use Rattle.ft_running.proofs.Further.{list_evaluation, list_goes, further_same}
use Rattle.ft_drafting.specs.Drafting.{reason, TellsStop, TellsDraft, TellsPremise, TellsRule, draft_over, with_rule}
use Rattle.ft_drafting.specs.Stopping.{IsStopOf}
use Rattle.ft_drafting.specs.declared.stops.Stop.{Stop}
use Rattle.ft_drafting.specs.declared.stops.Stop.TheVariants as stop

-- ---- stops

-- an outcome that halts at the place, for what the reference refuses
abbrev HaltsFor : {A B : Type 0} → ℕ → Evaluation → (Result A reference.RuleFault → meaning.Outcome B) → Type 0
HaltsFor at e F = (why : reference.RuleFault) → F (Err why) ≡ (Err (halts (fails (OfRule why) at)), run_of e)

refused : {A B : Type 0} (e : Evaluation) (at : ℕ) (F : Result A reference.RuleFault → meaning.Outcome B) → HaltsFor at e F
    → (r : Result A reference.RuleFault) (f : RuleFault) (why : reference.RuleFault) (x : Stop) → reason f ≡ Some why → r ≡ Err why → x ≡ stop.Refuses at f → TellsStop (F r) x e
refused e at F halting r f why x known h is = subst (λ x. TellsStop (F r) x e) (sym is) (why, known, ap F h ∙ halting why)

pub stops : {A B : Type 0} (e : Evaluation) (at : ℕ) (F : Result A reference.RuleFault → meaning.Outcome B) → HaltsFor at e F
    → (r : Result A reference.RuleFault) (f : RuleFault) (x : Stop) → Refuses r f → IsStopOf at f x → TellsStop (F r) x e
stops e at F halting r fault.Duplicate x h is = refused e at F halting r fault.Duplicate reference.Duplicate x refl h is
stops e at F halting r fault.TooMany x h is = refused e at F halting r fault.TooMany reference.TooMany x refl h is
stops e at F halting r (fault.OpenPremise i a) x h is =
    refused e at F halting r (fault.OpenPremise i a) (reference.OpenPremise i (atom_of a)) x refl h is
stops e at F halting r (fault.OpenConclusion a) x h is =
    refused e at F halting r (fault.OpenConclusion a) (reference.OpenConclusion (atom_of a)) x refl h is
stops e at F halting r fault.Memory (stop.Ends end) h is = memory_told (F r) end e is
stops e at F halting r fault.Memory (stop.Refuses p g) h is = absurd is

-- ---- a draft is begun

abbrev begins : Evaluation → ℕ → Name → meaning.Outcome reference.Draft
begins e at n = declare OfRule at (λ W. reference.begin W n) (run_of e)

-- the declarations stay
begun_after : (o : Option reference.RuleFault) (W : Declarations) (d : reference.Draft) → (outcome o W W d).after ≡ W
begun_after None W d = refl
begun_after (Some f) W d = refl

pub draft_begun : (e : Evaluation) (at : ℕ) (n : Name) (d : Drafted) → Begins e.list.items n (Ok d) → IsDraftOver e.list.items d
    → TellsDraft (begins e at n) (Ok d) e
draft_begun e at n d h is =
    let W : Declarations = declared_by e.list.items in (
      ap₂ (λ W r. after_declaration OfRule at W r (run_of e)) (begun_after (name_fault W n) W (record { name = n; premises = [] })) h,
      is,
    )

pub draft_stops : (e : Evaluation) (at : ℕ) (n : Name) (f : RuleFault) (x : Stop) → Begins e.list.items n (Err f) → IsStopOf at f x
    → TellsDraft (begins e at n) (Err x) e
draft_stops e at n f x h is =
    let W : Declarations = declared_by e.list.items in
    stops e at (λ r. after_declaration OfRule at (reference.begin W n).after r (run_of e)) (λ why. refl) (reference.begin W n).answer f x h is

-- ---- lists with one more item

-- an item that is no variable
one_more : (e : Evaluation) (t : State) (i : Item) → IsEvaluation e → variables_in (i ∷ []) ≡ [] → t ≡ with_item e.list i → IsEvaluation (with_list t e)
one_more e t i is none adds =
    let same : variables_in t.items ≡ variables_in e.list.items =
    ap (λ (t : State). variables_in t.items) adds ∙ variables_append e.list.items (i ∷ [])
    ∙ ap (λ vs. variables_in e.list.items ++ vs) none ∙ append-nil (variables_in e.list.items) in
    let more : HasMore e.list t = (i ∷ [], ap (λ (t : State). t.items) adds) in
    list_evaluation e t e.units is more (omega (arith, is.numbered, ap next_number same)) is.within

unchanged : (e : Evaluation) (t : State) → IsEvaluation e → t ≡ e.list → IsEvaluation (with_list t e)
unchanged e t is same = subst (λ t. IsEvaluation (with_list t e)) (sym same) is

-- ---- a premise

pub premise_evaluation : (e : Evaluation) (t : State) (d f : Drafted) (n : Name) (b : ℕ) (r : Result ℕ RuleFault) → IsEvaluation e
    → Premises e.list d n b r t f → IsEvaluation (with_list t e)
premise_evaluation e t d f n b (Ok m) is h = one_more e t (metavariable n b) is refl h.2.2
premise_evaluation e t d f n b (Err x) is h = unchanged e t is h.2.1

pub premise_goes : (e : Evaluation) (t : State) (d f : Drafted) (n : Name) (b : ℕ) (r : Result ℕ RuleFault)
    → Premises e.list d n b r t f → GoesFurther e (with_list t e)
premise_goes e t d f n b (Ok m) h =
    list_goes e t e.units (metavariable n b ∷ [], ap (λ (t : State). t.items) h.2.2, (tt, tt)) (omega arith) refl
premise_goes e t d f n b (Err x) h = subst (λ t. GoesFurther e (with_list t e)) (sym h.2.1) (further_same e)

abbrev adds : Evaluation → ℕ → Drafted → Name → ℕ → meaning.Outcome ((ℕ × Declared) × reference.Draft)
adds e at d n b = add_premise at (draft_over e d) n (stated_at e.list b) (run_of e)

-- what is left of a premise that is answered
abbrev premised : Evaluation → ℕ → Declarations × reference.Draft → Result (ℕ × Declared) reference.RuleFault
    → meaning.Outcome ((ℕ × Declared) × reference.Draft)
premised e at after answer = after_premise at (record { after = after; answer = answer }) (run_of e)

pub premise_added : (e : Evaluation) (t : State) (at : ℕ) (d f : Drafted) (n : Name) (b m : ℕ) → Premises e.list d n b (Ok m) t f → IsDraftOver t.items f
    → m < length (metavariables_in t.items) → TellsPremise (adds e at d n b) (Ok m) f (with_list t e)
premise_added e t at d f n b m h is l = (
  ap (λ a. add_premise at (draft_over e d) n a (run_of e)) (ap stated h.1)
      ∙ ap₂ (premised e at) h.2.1 h.2.0,
  is,
  l,
)

pub premise_stops : (e : Evaluation) (t : State) (at : ℕ) (d f : Drafted) (n : Name) (b : ℕ) (x : RuleFault) (s : Stop) → Premises e.list d n b (Err x) t f
    → IsStopOf at x s → TellsPremise (adds e at d n b) (Err s) f (with_list t e)
premise_stops e t at d f n b x s h is =
    subst (λ t. TellsStop (adds e at d n b) s (with_list t e)) (sym h.2.1)
    (subst (λ a. TellsStop (add_premise at (draft_over e d) n a (run_of e)) s e) (sym (ap stated h.1))
    (stops e at (premised e at (premise_in e.list.items d n h.0).after) (λ why. refl) (premise_in e.list.items d n h.0).answer x s h.2.0 is))

-- ---- a rule

pub rule_evaluation : (e : Evaluation) (t : State) (d : Drafted) (c : ℕ) (r : Result ℕ RuleFault) → IsEvaluation e
    → Finishes e.list d c r t → IsEvaluation (with_list t e)
rule_evaluation e t d c (Ok r) is h = one_more e t (rule d.name d.premises c) is refl h.2.2
rule_evaluation e t d c (Err x) is h = unchanged e t is h.2.1

abbrev finishes : Evaluation → ℕ → Drafted → ℕ → meaning.Outcome (ℕ × Rule)
finishes e at d c = declare OfRule at (λ W. reference.finish W (draft_over e d) (stated_at e.list c)) (run_of e)

-- with this statement as its conclusion
abbrev finished : Evaluation → ℕ → Drafted → Assertion → meaning.Outcome (ℕ × Rule)
finished e at d a = declare OfRule at (λ W. reference.finish W (draft_over e d) a) (run_of e)

pub rule_told : (e : Evaluation) (t : State) (at : ℕ) (d : Drafted) (c r : ℕ) → Finishes e.list d c (Ok r) t
    → TellsRule (finishes e at d c) (Ok r) (with_list t e)
rule_told e t at d c r h = (
  declared_rule (draft_over e d).premises h.0,
  ap (finished e at d) (ap stated h.1)
      ∙ ap₂ (λ W o. after_declaration OfRule at W o (run_of e)) h.2.1 h.2.0,
)

pub rule_stops : (e : Evaluation) (t : State) (at : ℕ) (d : Drafted) (c : ℕ) (x : RuleFault) (s : Stop) → Finishes e.list d c (Err x) t
    → IsStopOf at x s → TellsRule (finishes e at d c) (Err s) (with_list t e)
rule_stops e t at d c x s h is =
    subst (λ t. TellsStop (finishes e at d c) s (with_list t e)) (sym h.2.1)
    (subst (λ a. TellsStop (finished e at d a) s e) (sym (ap stated h.1))
    (stops e at (λ o. after_declaration OfRule at (finish_in e.list.items d h.0).after o (run_of e)) (λ why. refl) (finish_in e.list.items d h.0).answer x s h.2.0 is))

pub rule_added : (e : Evaluation) (t : State) (d : Drafted) (c r : ℕ) → Finishes e.list d c (Ok r) t → with_list t e ≡ with_rule d c e
rule_added e t d c r h = ap (λ t. with_list t e) h.2.2

pub rule_same : (e : Evaluation) (t : State) (d : Drafted) (c : ℕ) (x : RuleFault) → Finishes e.list d c (Err x) t → with_list t e ≡ e
rule_same e t d c x h = ap (λ t. with_list t e) h.2.1
