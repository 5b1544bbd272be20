-- Commands: the longer list tells what a command does.
use Rattle.std.proofs.Common.{◌≡◌, ℕ, true, Option, Some, None, Result, Ok, Err, List, [], ◌∷◌, ◌++◌, refl, sym, ap, ap₂, ◌∙◌, subst, append_assoc, append-nil}
use Rattle.std.specs.Prelude.{map, option_map}
use Rattle.ft_theory.specs.Rules.{Rule, rule_at}
use Rattle.ft_items.specs.Item.{Name, Item, shown}
use Rattle.ft_items.specs.Store.{Assertion, sequent_in, add_rule, add, empty_store, declared_rule, Declarations, declared_by, store_of}
use Rattle.ft_items.specs.Rows.{atoms}
use Rattle.ft_items.specs.Good.{is_next}
use Rattle.ft_sound.proofs.Valid.{Valid}
use Rattle.ft_sound.proofs.Theorems.{members_hold}
use Rattle.ft_reference.specs.Declare.{Outcome as Declaration, outcome, first_of, RuleFault, OpenConclusion, Draft, name_fault, first_outside, begin, next_rule, finish}
use Rattle.ft_nucleus_laws.specs.Laws.{drafted}
use Rattle.ft_nucleus_laws.proofs.Declaring.{finishes_allowed}
use Rattle.ft_meaning.specs.Trees.{Body, Premise, Command, rule_command, let_command, operation_command, computation_command, extensionality_command, show_command}
use Rattle.ft_meaning.specs.Stages.{Stage, applications, programs, body_parts, rule_parts, command_parts}
use Rattle.ft_meaning.specs.Values.{Value, judgement, boundary, unit, truth, pair, nil, cons, none, some, Environment, OfRule, State, End, performs, halts, Halt, stuck, Outcome, Run, ◌>>=◌, ◌>>◌, pure, after_declaration, declare, the_rule, as_judgement, as_judgements}
use Rattle.ft_meaning.specs.Values as values
use Rattle.ft_meaning.specs.Forms.{meaning}
use Rattle.ft_meaning.specs.Commands as commands
use Rattle.ft_grammar.specs.declared.syntax.Named.{Named}
use Rattle.ft_equality.specs.Shapes.{ShapeFault, EqualityRules, add_computation, add_extensionality}
use Rattle.ft_meaning.specs.Commands.{shaped, declare_equality, boundary_by, declare_premises, declare_rule, Done, Accepted, ShownNone, Quiet, done, ended, run_command}
use Rattle.ft_meaning.specs.Events.{Event, shows, EachShown, events_of, shown_in, IsDerivable, Told, declares, states, told_by_event, told_rule, told_shown, told_from}
use Rattle.ft_meaning_laws.proofs.Grows as grows
use Rattle.ft_meaning_laws.proofs.Grows.{GrowsStore, grows_self, grows_then, grows_last, told_last, quiet_self}
use Rattle.ft_meaning_laws.proofs.Lists.{sound_last, AreAccepted, computation_added, extensionality_added}
use Rattle.ft_meaning_laws.proofs.Made.{IsThesis, AllTheses, IsMade, AreMade, theses_grown, are_made_later, are_made_grown, Holds, holds_last, Kept, Keeps, keeps_bind, keeps_then, keeps_pure, keeps_halt, Any, keeps_judgement, keeps_judgements}
use Rattle.ft_meaning_laws.proofs.Calls.{IsRule, keeps_rule}
use Rattle.ft_meaning_laws.proofs.Built.{AllBuilt, rest_built, right_built}
use Rattle.ft_meaning_laws.proofs.Evaluations.{keeps_meaning}
use Rattle.ft_meaning_laws.proofs.Rules.{IsPlainBoundary, HasDraft, draft_later, keeps_begin, DraftMade, keeps_boundary, keeps_premises}

-- what a list tells
abbrev told : List Item → List Told
told items = told_from empty_store items

-- A rule is declared: the longer list tells it.
abbrev rule_told : Name → Result Rule End → List Told
rule_told n (Ok R) = declares n R ∷ []
rule_told n (Err e) = []

-- What a command does, and what is then told and shown.
abbrev events_by : {E : Type 0} → Result (Done × Environment) E × State → List Event
events_by (Ok d, s) = events_of s.declarations d.0
events_by (Err e, s) = []

abbrev NamesMade : {E : Type 0} → List Item → Result (Done × Environment) E → Type 0
NamesMade items (Ok d) = AreMade items d.1
NamesMade items (Err e) = Unit {0}

-- what is shown of a list
abbrev DoneMade : List Item → Done → Type 0
DoneMade items (Accepted n R) = ⊥
DoneMade items (commands.Shown js) = AllTheses items js
DoneMade items ShownNone = Unit {0}
DoneMade items Quiet = Unit {0}

abbrev CommandMade : List Item → Done × Environment → Type 0
CommandMade items d = DoneMade items d.0 × AreMade items d.1

module _ (B : Stage) where
  -- A longer list that goes along with the state, and tells these after what the list told.
  pub record Longer (items : List Item) (s : State) (ts : List Told) : Type 0 where
    pub later : List Item
    pub grows : GrowsStore (store_of items) (store_of later)
    pub holds : Holds B later s
    pub tells : told later ≡ told items ++ ts

  longer_self : (items : List Item) (s : State) → Holds B items s → Longer items s []
  longer_self items s h = record { later = items; grows = grows_self (store_of items); holds = h; tells = sym (append-nil (told items)) }

  abbrev longer_quiet : (A : Type 0) (P : List Item → A → Type 0) (items : List Item) (o : Outcome A) → Kept B A P items o → Longer items o.1 []
  longer_quiet A P items o k = record { later = k.later; grows = k.quiet.grows; holds = k.holds; tells = k.quiet.tells ∙ sym (append-nil (told items)) }

  abbrev longer_then : (items : List Item) (s t : State) (xs ys : List Told) (m : Longer items s xs) → Longer m.later t ys → Longer items t (xs ++ ys)
  longer_then items s t xs ys m n = record {
    later = n.later;
    grows = grows_then (store_of items) (store_of m.later) (store_of n.later) m.grows n.grows;
    holds = n.holds;
    tells = n.tells ∙ ap (λ z. z ++ ys) m.tells ∙ append_assoc (told items) xs ys;
  }

  -- a rule is declared
  abbrev RuleRan : Name → List Item → Outcome Rule → Type 0
  RuleRan n items o = Longer items o.1 (rule_told n o.0)

  rule_after : (A : Type 0) (P : List Item → A → Type 0) (n : Name) (items : List Item) (o : Outcome A) (next : A → Run Rule) → Kept B A P items o
      → ((later : List Item) → grows.Quiet items later → (a : A) → P later a → (s : State) → Holds B later s → RuleRan n later (next a s)) → RuleRan n items (values.after o next)
  rule_after A P n items (Ok a, s) next k f =
      longer_then items s (next a s).1 [] (rule_told n (next a s).0) (longer_quiet A P items (Ok a, s) k) (f k.later k.quiet a k.gives s k.holds)
  rule_after A P n items (Err e, s) next k f = longer_quiet A P items (Err e, s) k

  finishing : (n : Name) (items : List Item) (at : ℕ) (d : Draft) (b : Assertion) → HasDraft n items d → IsPlainBoundary items b → (s : State) → Holds B items s
      → RuleRan n items ((declare OfRule at (λ W. finish W d b) >>= λ R. pure R.1) s)
  finishing n items at d b i k s h = go (fault s.declarations) refl
    where
      W : Declarations
      W = declared_by items

      fault : Declarations → Option RuleFault
      fault Z = first_of (name_fault Z d.name) (option_map OpenConclusion (first_outside (atoms d.premises) b.set))

      made : Declarations → Declarations
      made Z = add_rule Z d.name (Some d.premises) (Some b)

      result : Option RuleFault → Declarations → Declaration Declarations (ℕ × Rule) RuleFault
      result o Z = outcome o Z (made Z) (next_rule Z d.premises b)

      item : Item
      item = drafted d k.0.0.0

      named : (add (store_of items) item).declarations ≡ made W
      named = ap₂ (add_rule W d.name) i.0.named k.0.0.1

      go : (o : Option RuleFault) → fault s.declarations ≡ o → RuleRan n items (values.after (after_declaration OfRule at (result o s.declarations).after (result o s.declarations).answer s) (λ S. pure S.1))
      go None e =
          let none : fault W ≡ None = subst (λ z. fault z ≡ None) h.declarations e in
          let okay : (finish W d b).answer ≡ Ok (next_rule W d.premises b) = ap (λ z. (result z W).answer) none in
          record {
            later = items ++ (item ∷ []);
            grows = grows_last items item;
            holds = holds_last B items item s (record s { declarations = made s.declarations }) h
                (sound_last B items item h.list ((finishes_allowed items d k.0.0.0 b i.0 k.0.0.1 k.0.1 k.1).0 okay).0)
                refl (ap made h.declarations ∙ sym named) (subst (λ (z : Declarations). is_next z.variables s.units.used ≡ true) (sym named) h.next);
            tells = told_last empty_store items item ∙ ap (λ z. told items ++ z) (ap₂ (told_rule d.name) i.0.named k.0.0.1 ∙ ap (λ z. declares z (declared_rule d.premises b) ∷ []) i.1);
          }
      go (Some f) e = longer_self items s h

  pub record CommandRan (E : Type 0) (items : List Item) (o : Result (Done × Environment) E × State) : Type 0 where
    pub longer : Longer items o.1 (map told_by_event (events_by o))
    pub names : NamesMade longer.later o.0
    pub derivable : EachShown IsDerivable (shown_in (events_by o))

  -- a rule
  rule_ran : (n : Name) (items : List Item) (G : Environment) → AreMade items G → (o : Outcome Rule) → RuleRan n items o → CommandRan End items (values.after o (λ R. pure (Accepted n R, G)))
  rule_ran n items G g (Ok R, s) r = record { longer = r; names = are_made_grown items r.later r.grows G g; derivable = tt }
  rule_ran n items G g (Err e, s) r = record { longer = r; names = tt; derivable = tt }

  -- judgements are shown
  well_here : (items : List Item) (s : State) → Holds B items s → (j : Assertion) → IsThesis items j → IsDerivable (record { declarations = s.declarations; judgement = j })
  well_here items s h j k =
      let v : Valid (declared_by items) j.statement j.set = h.list.well.entries k.0.0 j k.0.1 in
      subst (λ z. IsDerivable (record { declarations = z; judgement = j })) (sym h.declarations)
      (record { context = members_hold (declared_by items) h.list.well.declarations [] j.set v.proper; derivable = v.derivable })

  mark_one : (items : List Item) (s : State) → Holds B items s → (j : Assertion) → IsThesis items j → Longer items s (told_by_event (shows s.declarations j) ∷ [])
  mark_one items s h j k = record {
    later = items ++ (item ∷ []);
    grows = grows_last items item;
    holds = holds_last B items item s s h (sound_last B items item h.list (j, k.0.1, k.1)) refl h.declarations h.next;
    tells = told_last empty_store items item ∙ ap (λ z. told items ++ z)
        (ap (told_shown W) k.0.1
        ∙ ap (λ (z : Declarations). states z.rules (sequent_in z j.statement j.set) ∷ []) (sym h.declarations));
  }
    where
      W : Declarations
      W = declared_by items

      item : Item
      item = shown k.0.0

  mark : (js : List Assertion) (items : List Item) (s : State) → Holds B items s → AllTheses items js
      → Longer items s (map told_by_event (map (shows s.declarations) js)) × EachShown IsDerivable (shown_in (map (shows s.declarations) js))
  mark [] items s h k = (longer_self items s h, tt)
  mark (j ∷ js) items s h k =
      let m : Longer items s (told_by_event (shows s.declarations j) ∷ []) = mark_one items s h j k.0 in
      let more : Longer m.later s (map told_by_event (map (shows s.declarations) js)) × EachShown IsDerivable (shown_in (map (shows s.declarations) js)) = mark js m.later s m.holds (theses_grown items m.later m.grows js k.1) in
      (longer_then items s s (told_by_event (shows s.declarations j) ∷ []) (map told_by_event (map (shows s.declarations) js)) m more.0, (well_here items s h j k.0, more.1))

  quiet_ran : (items : List Item) (o : Outcome (Done × Environment)) → Kept B (Done × Environment) CommandMade items o → CommandRan End items o
  quiet_ran items (Ok (Accepted n R, G), s) k = absurd k.gives.0
  quiet_ran items (Ok (commands.Shown js, G), s) k =
      let m : Longer k.later s (map told_by_event (map (shows s.declarations) js)) × EachShown IsDerivable (shown_in (map (shows s.declarations) js)) = mark js k.later s k.holds k.gives.0 in
      record { longer = longer_then items s s [] (map told_by_event (map (shows s.declarations) js)) (longer_quiet _ CommandMade items _ k) m.0; names = are_made_grown k.later m.0.later m.0.grows G k.gives.1; derivable = m.1 }
  quiet_ran items (Ok (ShownNone, G), s) k = record { longer = longer_quiet _ CommandMade items _ k; names = k.gives.1; derivable = tt }
  quiet_ran items (Ok (Quiet, G), s) k = record { longer = longer_quiet _ CommandMade items _ k; names = k.gives.1; derivable = tt }
  quiet_ran items (Err e, s) k = record { longer = longer_quiet _ CommandMade items _ k; names = tt; derivable = tt }

  -- what a value shows
  keeps_shown : (items : List Item) (v : Value) → IsMade items v → Keeps B Done DoneMade items (commands.shown v)
  keeps_shown items (judgement j) h = keeps_pure B Done DoneMade items (commands.Shown (j ∷ [])) (h, tt)
  keeps_shown items (some v) h = keeps_bind B Assertion Done IsThesis DoneMade items (as_judgement v) (λ j. pure (commands.Shown (j ∷ []))) (keeps_judgement B items v h) (λ xs q j p. keeps_pure B Done DoneMade xs (commands.Shown (j ∷ [])) (p, tt))
  keeps_shown items none h = keeps_pure B Done DoneMade items ShownNone tt
  keeps_shown items nil h = keeps_pure B Done DoneMade items (commands.Shown []) tt
  keeps_shown items (cons v w) h = keeps_bind B (List Assertion) Done AllTheses DoneMade items (as_judgements (cons v w)) (λ js. pure (commands.Shown js)) (keeps_judgements B items (cons v w) h) (λ xs q js p. keeps_pure B Done DoneMade xs (commands.Shown js) p)
  keeps_shown items v h = keeps_halt B Done DoneMade items stuck

  -- an equality rule
  keeps_equality : (items : List Item) (add : EqualityRules → ℕ → Rule → Result EqualityRules ShapeFault) (n : Named)
      → ((T : List Rule) (E D : EqualityRules) (r : ℕ) (R : Rule) → rule_at T r ≡ Some R → add E r R ≡ Ok D → AreAccepted T E → AreAccepted T D) → Keeps B (Unit {0}) Any items (declare_equality add n)
  keeps_equality items add n f = keeps_bind B (ℕ × Rule) (Unit {0}) IsRule Any items (the_rule n.name) (λ r s. shaped n.at (add s.equality_rules r.0 r.1) s) (keeps_rule B items n.name)
      (λ xs q r k s h. go xs r k s h (add s.equality_rules r.0 r.1) refl)
    where
      go : (xs : List Item) (r : ℕ × Rule) → IsRule xs r → (s : State) → Holds B xs s → (o : Result EqualityRules ShapeFault) → add s.equality_rules r.0 r.1 ≡ o → Kept B (Unit {0}) Any xs (shaped n.at o s)
      go xs r k s h (Ok D) e = record { later = xs; quiet = quiet_self xs; holds = record { list = h.list; equality = f (declared_by xs).rules s.equality_rules D r.0 r.1 k e h.equality; declarations = h.declarations; next = h.next }; gives = tt }
      go xs r k s h (Err x) e = record { later = xs; quiet = quiet_self xs; holds = h; gives = tt }

  -- an operation that no case took
  ended_ran : (items : List Item) (o : Outcome (Done × Environment)) → CommandRan End items o → CommandRan Halt items (ended o)
  ended_ran items (Ok d, s) r = record { longer = r.longer; names = r.names; derivable = r.derivable }
  ended_ran items (Err (performs op v at), s) r = record { longer = r.longer; names = tt; derivable = tt }
  ended_ran items (Err (halts e), s) r = record { longer = r.longer; names = tt; derivable = tt }

  declared_ran : (n : Named) (ps : List Premise) (at : ℕ) (c : Body) → AllBuilt B (rule_parts [] ps at c) → (items : List Item) (G : Environment) → AreMade items G → (s : State) → Holds B items s → RuleRan n.name items (declare_rule n ps at c G s)
  declared_ran n ps at c u items G g s h =
      rule_after Draft (HasDraft n.name) n.name items (declare OfRule n.at (λ W. begin W n.name) s) _ (keeps_begin B items n.at n.name s h) (λ xs q d i t k.
      rule_after (Draft × Environment) (DraftMade n.name) n.name xs (declare_premises ps d G t) _ (keeps_premises B n.name [] ps at c u xs d G i (are_made_later items xs q G g) t k) (λ ys r e m t' k'.
      rule_after Assertion IsPlainBoundary n.name ys (boundary_by at c e.1 t') _ (keeps_conclusion ys e.1 m.1 t' k') (λ zs p b l t'' k''.
      finishing n.name zs at e.0 b (draft_later n.name ys zs p e.0 m.0) l t'' k'')))
    where
      keeps_conclusion : (ys : List Item) (H : Environment) → AreMade ys H → Keeps B Assertion IsPlainBoundary ys (boundary_by at c H)
      keeps_conclusion ys H m = keeps_boundary B (last_names [] ps) at c (conclusion_built [] ps u) ys H m
        where
          last_names : List Name → List Premise → List Name
          last_names ns [] = ns
          last_names ns (p ∷ ps) = last_names (p.name.name ∷ ns) ps

          conclusion_built : (ns : List Name) (ps : List Premise) → AllBuilt B (rule_parts ns ps at c) → AllBuilt B (body_parts (last_names ns ps) at c)
          conclusion_built ns [] u = u
          conclusion_built ns (p ∷ ps) u = conclusion_built (p.name.name ∷ ns) ps (right_built B _ _ u)

  done_ran : (c : Command) → AllBuilt B (command_parts c) → (items : List Item) (G : Environment) → AreMade items G → (s : State) → Holds B items s → CommandRan End items (done c G s)
  done_ran (rule_command at n ps c_at c) u items G g s h = rule_ran n.name items G g (declare_rule n ps c_at c G s) (declared_ran n ps c_at c (rest_built B applications at _ u) items G g s h)
  done_ran (let_command at n e) u items G g s h = quiet_ran items (done (let_command at n e) G s)
      (keeps_bind B Value (Done × Environment) IsMade CommandMade items (meaning e G) (λ v. pure (Quiet, (n.name, v) ∷ G)) (keeps_meaning B [] e (rest_built B programs at _ u) items G g)
      (λ xs q v m. keeps_pure B (Done × Environment) CommandMade xs (Quiet, (n.name, v) ∷ G) (tt, (m, are_made_later items xs q G g))) s h)
  done_ran (operation_command at n A C) u items G g s h = quiet_ran items (done (operation_command at n A C) G s) (keeps_pure B (Done × Environment) CommandMade items (Quiet, G) (tt, g) s h)
  done_ran (computation_command at n) u items G g s h = quiet_ran items (done (computation_command at n) G s) (keeps_then B (Unit {0}) (Done × Environment) Any CommandMade items (declare_equality add_computation n) (pure (Quiet, G)) (keeps_equality items add_computation n computation_added)
      (λ xs q. keeps_pure B (Done × Environment) CommandMade xs (Quiet, G) (tt, are_made_later items xs q G g)) s h)
  done_ran (extensionality_command at n) u items G g s h = quiet_ran items (done (extensionality_command at n) G s) (keeps_then B (Unit {0}) (Done × Environment) Any CommandMade items (declare_equality add_extensionality n) (pure (Quiet, G)) (keeps_equality items add_extensionality n extensionality_added)
      (λ xs q. keeps_pure B (Done × Environment) CommandMade xs (Quiet, G) (tt, are_made_later items xs q G g)) s h)
  done_ran (show_command at e) u items G g s h = quiet_ran items (done (show_command at e) G s)
      (keeps_bind B Done (Done × Environment) DoneMade (λ later d. CommandMade later d) items (meaning e G >>= commands.shown) (λ d. pure (d, G))
      (keeps_bind B Value Done IsMade DoneMade items (meaning e G) commands.shown (keeps_meaning B [] e (rest_built B applications at _ u) items G g) (λ xs q v m. keeps_shown xs v m))
      (λ xs q d m. keeps_pure B (Done × Environment) CommandMade xs (d, G) (m, are_made_later items xs q G g)) s h)

  pub command_ran : (c : Command) → AllBuilt B (command_parts c) → (items : List Item) (G : Environment) → AreMade items G → (s : State) → Holds B items s → CommandRan Halt items (run_command c G s)
  command_ran c u items G g s h = ended_ran items (done c G s) (done_ran c u items G g s h)
