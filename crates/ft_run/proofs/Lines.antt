-- What commands do one by one, their lines, and what they tell and show.
use Rattle.std.proofs.Common.{◌≡◌, ◌∙◌, sym, ap, ap₂, refl, subst, ℕ, suc, ◌+◌, ◌<◌, List, [], ◌∷◌, ◌++◌, length, drop, get_or, Option, Some, None, option_map, option_and_then, append_assoc, append-nil, arith, codes, true, false, cond, Result, Ok, Err, IfOk, OnOk, OnErr}
use Rattle.std.proofs.lemmas.Option.{none-some, same_Some}
use Rattle.std.proofs.Math.Seq.{drop-cons}
use Rattle.ft_theory.specs.Expressions.{Expression}
use Rattle.ft_theory.specs.Statements.{Claim, is_type, has_type, equal_types, equal_terms, type_goal, term_goal, type_equation_goal, term_equation_goal, plain}
use Rattle.ft_theory.specs.Rules.{Rule}
use Rattle.ft_theory.specs.Steps.{Prim}
use Rattle.ft_items.specs.Item.{Name, shown}
use Rattle.ft_items.specs.Equal.{is_thesis}
use Rattle.ft_items.specs.Good.{Allowed, is_new}
use Rattle.ft_items.proofs.Lists.{declared_last}
use Rattle.ft_base.specs.declared.memory.Memory.{Memory}
use Rattle.ft_applications_meaning.specs.declared.syntax.Application.{Application}
use Rattle.ft_applications_meaning.specs.declared.syntax.Premise.{Premise}
use Rattle.ft_applications_meaning.specs.declared.syntax.Conclusion.{Conclusion}
use Rattle.ft_applications_meaning.specs.declared.syntax.Command.{Command}
use Rattle.ft_applications_meaning.specs.declared.syntax.Command.TheVariants as command
use Rattle.ft_applications_meaning.specs.Building.{Declaration, theory, names, metavariable_count, claim_of, declared, with_rule}
use Rattle.ft_applications_meaning.specs.Events.{Event, accepts, repeats, shows, event_of_rule, done, events}
use Rattle.ft_applications_meaning.specs.Texts.{name_text, claim_text}
use Rattle.ft_applications_meaning.specs.Transcript.{line_feed, accepted_line, repeated_line, shown_line, text_of, status_of, shown_in, AllDerivable}
use Rattle.ft_applications_meaning.specs.Histories.{told, told_in, told_in_run, told_shown, states}
use Rattle.ft_judge.specs.Meaning.{claim_in}
use Rattle.ft_judge.specs.declared.judgement.Form.{Form}
use Rattle.ft_kernel.specs.State.{State, with_item}
use Rattle.ft_run.specs.declared.session.Known.{Known}
use Rattle.ft_run.specs.declared.session.Claimed.{Claimed}
use Rattle.ft_run.specs.declared.session.Ending.{Ending}
use Rattle.ft_run.specs.declared.session.Ending.TheVariants as ending
use Rattle.ft_run.specs.Session.{Progress, declarations, IsSession, HasEntry, IsClaimed, IsSimpleClaim, Keeps, IsCounted}
use Rattle.ft_run.specs.Claiming.{names_known}
use Rattle.ft_run.specs.Running.{Does, IsDeclared, IsShown, WasRule, WasRun, WereRun}
use Rattle.ft_run.proofs.Left.{AreLeft}
use Rattle.ft_run.proofs.Telling.{told_last, steps_last}
use Rattle.ft_run.proofs.Keeping.{keeps_tell}
use Rattle.ft_run.proofs.Naming.{names_declared}
use Rattle.ft_run.proofs.Accepted.{entry_there}
use Rattle.ft_run.proofs.Going.{same_metavariables, shown_no_more}

-- What is left.

here : (cs : List Command) (i : ℕ) (c : Command) → i < length cs → c ≡ get_or cs i c → drop i cs ≡ c ∷ drop (i + 1) cs
here cs i c l e =
    let z : suc i ≡ i + 1 = omega arith in
    drop-cons cs i c l ∙ ap₂ (λ c k. c ∷ drop k cs) (sym e) z

-- the commands that are left, after one more
left_here : (ds fs : List Declaration) (cs : List Command) (i : ℕ) (c : Command) (es : List Event) → i < length cs → c ≡ get_or cs i c → AreLeft ds cs es fs (drop i cs)
    → events ds cs ≡ option_map (λ more. es ++ more) (option_and_then (λ s. option_map (λ more. s.1 ∷ more) (events s.0 (drop (i + 1) cs))) (done fs c))
left_here ds fs cs i c es l e h = h ∙ ap (λ cs. option_map (λ more. es ++ more) (events fs cs)) (here cs i c l e)

pub left_next : (ds fs gs : List Declaration) (cs : List Command) (i : ℕ) (c : Command) (es : List Event) (e : Event) → i < length cs → c ≡ get_or cs i c → done fs c ≡ Some (gs, e)
    → AreLeft ds cs es fs (drop i cs) → AreLeft ds cs (es ++ e ∷ []) gs (drop (i + 1) cs)
left_next ds fs gs cs i c es e l same d h =
    left_here ds fs cs i c es l same h
    ∙ ap (λ o. option_map (λ more. es ++ more) (option_and_then (λ s. option_map (λ more. s.1 ∷ more) (events s.0 (drop (i + 1) cs))) o)) d
    ∙ joined (events gs (drop (i + 1) cs))
  where
    joined : (o : Option (List Event)) → option_map (λ more. es ++ more) (option_map (λ more. e ∷ more) o) ≡ option_map (λ more. (es ++ e ∷ []) ++ more) o
    joined None = refl
    joined (Some more) = ap Some (sym (append_assoc es (e ∷ []) more))

-- all are left
pub left_first : (ds : List Declaration) (cs : List Command) → AreLeft ds cs [] ds cs
left_first ds cs = same (events ds cs)
  where
    same : (o : Option (List Event)) → o ≡ option_map (λ more. [] ++ more) o
    same None = refl
    same (Some es) = refl

-- What is done, and more.

status_on : (es fs : List Event) → status_of es ≡ 0 → status_of (es ++ fs) ≡ status_of fs
status_on [] fs h = refl
status_on (accepts d ∷ es) fs h = status_on es fs h
status_on (repeats n ∷ es) fs h = absurd (omega (arith, h))
status_on (shows ds c ∷ es) fs h = status_on es fs h

text_on : (es fs : List Event) → status_of es ≡ 0 → text_of (es ++ fs) ≡ text_of es ++ text_of fs
text_on [] fs h = refl
text_on (accepts d ∷ es) fs h = ap (λ t. accepted_line d.name ++ t) (text_on es fs h) ∙ sym (append_assoc (accepted_line d.name) (text_of es) (text_of fs))
text_on (repeats n ∷ es) fs h = absurd (omega (arith, h))
text_on (shows ds c ∷ es) fs h = ap (λ t. shown_line (names ds) c ++ t) (text_on es fs h) ∙ sym (append_assoc (shown_line (names ds) c) (text_of es) (text_of fs))

told_on : (es fs : List Event) → status_of es ≡ 0 → told_in_run (es ++ fs) ≡ told_in_run es ++ told_in_run fs
told_on [] fs h = refl
told_on (accepts d ∷ es) fs h = ap (λ ts. told_in (accepts d ∷ []) ++ ts) (told_on es fs h)
told_on (repeats n ∷ es) fs h = absurd (omega (arith, h))
told_on (shows ds c ∷ es) fs h = ap (λ ts. told_in (shows ds c ∷ []) ++ ts) (told_on es fs h)

shown_on : (es fs : List Event) → status_of es ≡ 0 → AllDerivable (shown_in es) → AllDerivable (shown_in fs) → AllDerivable (shown_in (es ++ fs))
shown_on [] fs h a b = b
shown_on (accepts d ∷ es) fs h a b = shown_on es fs h a b
shown_on (repeats n ∷ es) fs h a b = absurd (omega (arith, h))
shown_on (shows ds c ∷ es) fs h a b = (a.0, shown_on es fs h a.1 b)

pub does_then : (p q r : Progress) (out mid new : List ℕ) (es fs : List Event) → Does p q out mid es → Does q r mid new fs → Does p r out new (es ++ fs)
does_then p q r out mid new es fs f g = record {
  kept = status_on es fs f.kept ∙ g.kept;
  text = g.text ∙ ap (λ t. t ++ text_of fs) f.text ∙ append_assoc out (text_of es) (text_of fs) ∙ ap (λ t. out ++ t) (sym (text_on es fs f.kept));
  tells = g.tells ∙ ap (λ ts. ts ++ told_in_run fs) f.tells ∙ append_assoc (told p.state.items) (told_in_run es) (told_in_run fs) ∙ ap (λ ts. told p.state.items ++ ts) (sym (told_on es fs f.kept));
  derivable = shown_on es fs f.kept f.derivable g.derivable;
  counted = g.counted;
}

-- How runs end.

-- The events are those before a repeated rule, the rule, and others.
abbrev EndsAt : List Event → Name → List Event → Type 0
EndsAt es n fs = (more : List Event) × (fs ≡ es ++ repeats n ∷ more)

ends_at : (es fs : List Event) (n : Name) (f : List Declaration → Option (List Event)) (o : Option (List Declaration × Event)) → ((s : List Declaration × Event) → o ≡ Some s → s.1 ≡ repeats n)
    → option_map (λ more. es ++ more) (option_and_then (λ s. option_map (λ more. s.1 ∷ more) (f s.0)) o) ≡ Some fs → EndsAt es n fs
ends_at es fs n f None h e = absurd (none-some fs e)
ends_at es fs n f (Some s) h e = go (f s.0) e
  where
    go : (o : Option (List Event)) → option_map (λ more. es ++ more) (option_map (λ more. s.1 ∷ more) o) ≡ Some fs → EndsAt es n fs
    go None e = absurd (none-some fs e)
    go (Some more) e = (more, sym (same_Some (es ++ s.1 ∷ more) fs e) ∙ ap (λ x. es ++ x ∷ more) (h s refl))

-- a rule of the name of an earlier one ended it
pub run_cut : (p q r : Progress) (out mid new : List ℕ) (cs : List Command) (i : ℕ) (c : Command) (es : List Event) → i < length cs → c ≡ get_or cs i c → AreLeft p.rules cs es q.rules (drop i cs)
    → Does p q out mid es → WasRun q r mid new c ending.Twice → WereRun p r out new cs ending.Twice
run_cut p q r out mid new cs i c es l same h d w fs f =
    let at : EndsAt es w.0 fs = ends_at es fs w.0 (λ gs. events gs (drop (i + 1) cs)) (done q.rules c) w.1 (sym (left_here p.rules q.rules cs i c es l same h) ∙ f) in
    let n : Name = w.0 in
    let last : List Event = repeats n ∷ at.0 in
    subst (λ fs. (new ≡ out ++ text_of fs) × (9 ≡ status_of fs) × (told r.state.items ≡ told p.state.items ++ told_in_run fs) × AllDerivable (shown_in fs)) (sym at.1) (
      w.2.text ∙ ap (λ t. t ++ repeated_line n) d.text ∙ append_assoc out (text_of es) (repeated_line n) ∙ ap (λ t. out ++ t) (sym (text_on es last d.kept)),
      sym (status_on es last d.kept),
      ap (λ (q : Progress). told q.state.items) w.2.same ∙ d.tells
          ∙ ap (λ ts. told p.state.items ++ ts) (sym (append-nil (told_in_run es)) ∙ sym (told_on es last d.kept)),
      shown_on es last d.kept d.derivable tt,
    )

-- One command.

-- a rule of a new name
rule_done : (ds es : List Declaration) (c : Command) (n : Name) (ps : List Premise) (k : Conclusion) (R : Rule) → c ≡ command.Rule n ps k → declared ds ps k ≡ Some R → is_new (names ds) n ≡ true
    → es ≡ ds ++ record { name = n; rule = R } ∷ [] → done ds c ≡ Some (es, accepts (record { name = n; rule = R }))
rule_done ds es c n ps k R e h new a =
    ap (done ds) e ∙ ap (option_map (λ R. (with_rule ds n R, event_of_rule ds n R))) h
    ∙ ap (λ b. Some (cond b (ds ++ record { name = n; rule = R } ∷ []) ds, cond b (accepts (record { name = n; rule = R })) (repeats n))) new
    ∙ ap (λ es. Some (es, accepts (record { name = n; rule = R }))) (sym a)

-- a rule of the name of an earlier one, where it is built
rule_repeats : (ds : List Declaration) (c : Command) (n : Name) (ps : List Premise) (k : Conclusion) → c ≡ command.Rule n ps k → is_new (names ds) n ≡ false
    → (s : List Declaration × Event) → done ds c ≡ Some s → s.1 ≡ repeats n
rule_repeats ds c n ps k e taken s h = go (declared ds ps k) (ap (done ds) (sym e) ∙ h)
  where
    go : (o : Option Rule) → option_map (λ R. (with_rule ds n R, event_of_rule ds n R)) o ≡ Some s → s.1 ≡ repeats n
    go None h = absurd (none-some s h)
    go (Some R) h = ap (λ (s : List Declaration × Event). s.1) (sym (same_Some (with_rule ds n R, event_of_rule ds n R) s h)) ∙ ap (λ b. cond b (accepts (record { name = n; rule = R })) (repeats n)) taken

pub rule_was : (p q : Progress) (out new : List ℕ) (c : Command) (n : Name) (ps : List Premise) (k : Conclusion) → c ≡ command.Rule n ps k → (x : Ending) → WasRule p q out new n ps k x → WasRun p q out new c x
rule_was p q out new c n ps k e ending.Done h = (
  accepts (record { name = n; rule = h.1.0 }),
  rule_done p.rules q.rules c n ps k h.1.0 e h.1.1 h.0 h.1.2,
  record {
    kept = refl;
    text = h.2 ∙ ap (λ t. out ++ t) (sym (append-nil (accepted_line n)));
    tells = h.1.3;
    derivable = tt;
    counted = h.3;
  },
)
rule_was p q out new c n ps k e ending.Twice h = (n, rule_repeats p.rules c n ps k e h.taken, h)

pub rule_was_run : {E : Type 0} (r : Result Ending E) (p q : Progress) (out new : List ℕ) (c : Command) (n : Name) (ps : List Premise) (k : Conclusion) → c ≡ command.Rule n ps k
    → IfOk r (λ x. WasRule p q out new n ps k x) → IfOk r (λ x. WasRun p q out new c x)
rule_was_run (Ok x) p q out new c n ps k e h = rule_was p q out new c n ps k e x h
rule_was_run (Err y) p q out new c n ps k e h = tt

pub rule_undone : (ds : List Declaration) (c : Command) (n : Name) (ps : List Premise) (k : Conclusion) → c ≡ command.Rule n ps k → declared ds ps k ≡ None → done ds c ≡ None
rule_undone ds c n ps k e h = ap (done ds) e ∙ ap (option_map (λ R. (with_rule ds n R, event_of_rule ds n R))) h

pub show_was : (p q : Progress) (out new : List ℕ) (c : Command) (a : Application) → c ≡ command.Show a → IsShown p q out new a → WasRun p q out new c ending.Done
show_was p q out new c a e h = (
  shows p.rules h.0,
  ap (done p.rules) e ∙ ap (option_map (λ c. (p.rules, shows p.rules c))) h.1 ∙ ap (λ rs. Some (rs, shows p.rules h.0)) (sym h.2),
  h.3,
)

pub show_undone : (ds : List Declaration) (c : Command) (a : Application) → c ≡ command.Show a → claim_of ds a ≡ None → done ds c ≡ None
show_undone ds c a e h = ap (done ds) e ∙ ap (option_map (λ c. (ds, shows ds c))) h

-- a rule is built, and the rules after it
abbrev pub IsBuilt : Progress → Progress → Name → List Premise → Conclusion → Type 0
IsBuilt p q n ps k = (R : Rule) × (declared p.rules ps k ≡ Some R) × (q.rules ≡ with_rule p.rules n R)

pub built_old : (p q : Progress) (n : Name) (ps : List Premise) (k : Conclusion) → is_new (names p.rules) n ≡ false → q.rules ≡ p.rules → (R : Rule) × (declared p.rules ps k ≡ Some R) → IsBuilt p q n ps k
built_old p q n ps k taken same h = (h.0, h.1, same ∙ sym (ap (λ b. cond b (p.rules ++ record { name = n; rule = h.0 } ∷ []) p.rules) taken))

pub built_new : (p q : Progress) (n : Name) (ps : List Premise) (k : Conclusion) → is_new (names p.rules) n ≡ true → IsDeclared p q n ps k → IsBuilt p q n ps k
built_new p q n ps k new h = (h.0, h.1, h.2 ∙ sym (ap (λ b. cond b (p.rules ++ record { name = n; rule = h.0 } ∷ []) p.rules) new))

pub rule_built : {A E : Type 0} (r : Result A E) (p q : Progress) (c : Command) (n : Name) (ps : List Premise) (k : Conclusion) → c ≡ command.Rule n ps k → OnOk r (IsBuilt p q n ps k)
    → OnOk r ((e : Event) × (done p.rules c ≡ Some (q.rules, e)))
rule_built (Err x) p q c n ps k e h = tt
rule_built (Ok x) p q c n ps k e h =
    let ds : List Declaration = p.rules in
    (event_of_rule ds n h.0, ap (done ds) e ∙ ap (option_map (λ R. (with_rule ds n R, event_of_rule ds n R))) h.1 ∙ ap (λ es. Some (es, event_of_rule ds n h.0)) (sym h.2))

pub show_built : (ds es : List Declaration) (c : Command) (a : Application) (k : Claim) → c ≡ command.Show a → claim_of ds a ≡ Some k → es ≡ ds → (e : Event) × (done ds c ≡ Some (es, e))
show_built ds es c a k e h s = (shows ds k, ap (done ds) e ∙ ap (option_map (λ c. (ds, shows ds c))) h ∙ ap (λ es. Some (es, shows ds k)) (sym s))

-- What is shown.

-- the line of what is claimed, in its three parts
pub shown_appended : (s : State) (ks kn : List Known) (p : Progress) (ts : List Expression) (f : Form) (out mark claim new : List ℕ) → record { state = s; rules = declarations s.trees ks } ≡ p → ts ≡ s.trees → kn ≡ ks
    → mark ≡ out ++ codes "|- " → claim ≡ mark ++ claim_text (names_known kn) (claim_in ts f) → new ≡ claim ++ codes "\n" → new ≡ out ++ shown_line (names p.rules) (claim_in p.state.trees f)
shown_appended s ks kn p ts f out mark claim new v t k a b c =
    let text : List ℕ = claim_text (names_known kn) (claim_in ts f) in
    let same : text ≡ claim_text (names p.rules) (claim_in p.state.trees f) =
    ap₂ (λ kn ts. claim_text (names_known kn) (claim_in ts f)) k t
    ∙ ap (λ ns. claim_text ns (claim_in s.trees f)) (sym (names_declared s.trees ks))
    ∙ ap (λ (p : Progress). claim_text (names p.rules) (claim_in p.state.trees f)) v in
    let end : codes "\n" ≡ line_feed = refl in
    c ∙ ap (λ m. m ++ codes "\n") (b ∙ ap (λ m. m ++ text) a)
    ∙ append_assoc (out ++ codes "|- ") text (codes "\n") ∙ append_assoc out (codes "|- ") (text ++ codes "\n")
    ∙ ap₂ (λ t e. out ++ (codes "|- " ++ (t ++ e))) same end

-- the line of a repeated rule, in its three parts
pub repeated_appended : {A E : Type 0} (r : Result A E) (out mark name new : List ℕ) (n : Name) → mark ≡ out ++ codes "error rule " → name ≡ mark ++ name_text n → OnOk r (new ≡ name ++ codes " declared twice\n")
    → OnOk r (new ≡ out ++ repeated_line n)
repeated_appended (Err e) out mark name new n a b c = tt
repeated_appended (Ok x) out mark name new n a b c =
    let end : codes " declared twice\n" ≡ codes " declared twice" ++ line_feed = refl in
    c ∙ ap (λ m. m ++ codes " declared twice\n") (b ∙ ap (λ m. m ++ name_text n) a)
    ∙ append_assoc (out ++ codes "error rule ") (name_text n) (codes " declared twice\n") ∙ append_assoc out (codes "error rule ") (name_text n ++ codes " declared twice\n")
    ∙ ap (λ t. out ++ (codes "error rule " ++ (name_text n ++ t))) end
    ∙ ap (λ t. out ++ (codes "error rule " ++ t)) (sym (append_assoc (name_text n) (codes " declared twice") line_feed))

-- entries leave the rules and their metavariables
pub counted_kept : (p q : Progress) → Keeps p q → IsCounted p → IsCounted q
counted_kept p q k h = ap length (same_metavariables p q k) ∙ h ∙ ap metavariable_count (sym k.rules)

claim_is_thesis : (c : Claim) → IsSimpleClaim c → is_thesis (plain c) ≡ true
claim_is_thesis (is_type A) h = refl
claim_is_thesis (has_type t A) h = refl
claim_is_thesis (equal_types A B) h = absurd h
claim_is_thesis (equal_terms s t A) h = absurd h
claim_is_thesis type_goal h = absurd h
claim_is_thesis (term_goal A) h = absurd h
claim_is_thesis (type_equation_goal A B) h = absurd h
claim_is_thesis (term_equation_goal s t A) h = absurd h

-- what is claimed may be marked
pub mark_allowed : (s : State) (ks : List Known) (p : Progress) (x : Claimed) → record { state = s; rules = declarations s.trees ks } ≡ p → IsClaimed p.state x → Allowed s.items (shown x.entry)
mark_allowed s ks p x v h =
    subst (λ (p : Progress). Allowed p.state.items (shown x.entry)) (sym v)
    (record { statement = plain (claim_in p.state.trees x.form); set = [] }, entry_there p.state x.entry (claim_in p.state.trees x.form) h.entry, claim_is_thesis (claim_in p.state.trees x.form) h.simple)

session_marked : (s : State) (j : ℕ) (ks : List Known) → IsSession s ks → IsSession (with_item s (shown j)) ks
session_marked s j ks h =
    let more = declared_last s.items (shown j) in
    record {
      known = h.known;
      rules = ap (λ W. W.rules) more ∙ h.rules;
      names_are = ap (λ W. W.names) more ∙ h.names_are;
      steps = steps_last s.items (shown j) h.steps tt;
    }

pub session_after_mark : {A : Type 0} (r : Result A Memory) (s t : State) (j : ℕ) (ks : List Known) → IsSession s ks → OnOk r (t ≡ with_item s (shown j)) → OnErr r (t ≡ s) → IsSession t ks
session_after_mark (Ok x) s t j ks h a e = subst (λ t. IsSession t ks) (sym a) (session_marked s j ks h)
session_after_mark (Err m) s t j ks h a e = subst (λ t. IsSession t ks) (sym e) h

pub counted_after_mark : {A : Type 0} (r : Result A Memory) (s t : State) (j : ℕ) (ks : List Known) (p : Progress) → record { state = s; rules = declarations s.trees ks } ≡ p → OnOk r (t ≡ with_item s (shown j)) → OnErr r (t ≡ s)
    → IsCounted p → IsCounted (record { state = t; rules = declarations t.trees ks })
counted_after_mark (Ok x) s t j ks p v a e h =
    subst (λ (t : State). IsCounted (record { state = t; rules = declarations t.trees ks })) (sym a) (ap length (shown_no_more s j) ∙ subst IsCounted (sym v) h)
counted_after_mark (Err m) s t j ks p v a e h = subst (λ (t : State). IsCounted (record { state = t; rules = declarations t.trees ks })) (sym e) (subst IsCounted (sym v) h)

mark_tells : (s : State) (ks : List Known) (j : ℕ) (c : Claim) → IsSession s ks → HasEntry s j c → told (s.items ++ shown j ∷ []) ≡ told s.items ++ states (theory (declarations s.trees ks)) (plain c) [] ∷ []
mark_tells s ks j c h e = told_last s.items (shown j) ∙ ap₂ (λ T o. told s.items ++ told_shown T o) h.rules (entry_there s j c e)

pub told_after_mark : {A : Type 0} (r : Result A Memory) (s t : State) (ks : List Known) (p : Progress) (x : Claimed) → IsSession s ks → record { state = s; rules = declarations s.trees ks } ≡ p
    → IsClaimed p.state x → OnOk r (t ≡ with_item s (shown x.entry)) → OnOk r (told t.items ≡ told p.state.items ++ states (theory p.rules) (plain (claim_in p.state.trees x.form)) [] ∷ [])
told_after_mark (Err m) s t ks p x h v c a = tt
told_after_mark (Ok z) s t ks p x h v c a =
    let claimed : IsClaimed s x = subst (λ (p : Progress). IsClaimed p.state x) (sym v) c in
    subst (λ (p : Progress). told t.items ≡ told p.state.items ++ states (theory p.rules) (plain (claim_in p.state.trees x.form)) [] ∷ []) v
    (ap (λ (t : State). told t.items) a ∙ mark_tells s ks x.entry (claim_in s.trees x.form) h claimed.entry)

-- what is shown, by the claim that was made, its line and its mark
pub shown_after : (p q r : Progress) (a : Application) (f : Form) (out new : List ℕ) → IsCounted p → Keeps p q → claim_of p.rules a ≡ Some (claim_in q.state.trees f)
    → new ≡ out ++ shown_line (names q.rules) (claim_in q.state.trees f) → Prim (theory q.rules) [] [] (plain (claim_in q.state.trees f))
    → told r.state.items ≡ told q.state.items ++ states (theory q.rules) (plain (claim_in q.state.trees f)) [] ∷ [] → r.rules ≡ q.rules → (IsCounted q → IsCounted r) → IsShown p r out new a
shown_after p q r a f out new count k h l d t same counts =
    let c : Claim = claim_in q.state.trees f in (
      c,
      h,
      same ∙ k.rules,
      record {
        kept = refl;
        text = l ∙ ap (λ ds. out ++ shown_line (names ds) c) k.rules ∙ ap (λ t. out ++ t) (sym (append-nil (shown_line (names p.rules) c)));
        tells = t ∙ ap₂ (λ ts ds. ts ++ states (theory ds) (plain c) [] ∷ []) (keeps_tell p q k) k.rules;
        derivable = (subst (λ ds. Prim (theory ds) [] [] (plain c)) k.rules d, tt);
        counted = counts (counted_kept p q k count);
      },
    )
