-- Declarations of rules keep to entries of the list, up to their last step, which adds the rule.
use Rattle.std.proofs.Common.{◌≡◌, ℕ, suc, Bool, true, false, cond, Option, Some, None, List, [], ◌∷◌, ◌++◌, length, refl, sym, ap, ap₂, ◌∙◌, subst}
use Rattle.std.specs.Prelude.{option_map}
use Rattle.std.proofs.lemmas.Option.{same_Some}
use Rattle.ft_theory.specs.Statements.{Statement, is_type, has_type, plain}
use Rattle.ft_items.specs.Sets.{Atom, met, var, has, metavariables_only}
use Rattle.ft_items.specs.Equal.{is_plain}
use Rattle.ft_items.specs.Item.{Name, Item, metavariable, by_var, by_generic, by_abs, by_btype, by_bterm, by_beqty, by_beqtm}
use Rattle.ft_items.specs.Store.{Assertion, Annotation, Declared, with_one, with_two, with_three, nth, entry_named, add_metavariable, add, store_of, Resolved, Declarations, declared_metavariable, declared_by}
use Rattle.ft_items.specs.Rows.{term_boundary, type_equation_boundary, term_equation_boundary, atoms, conclusion, concludes_thesis}
use Rattle.ft_items.specs.Good.{is_next}
use Rattle.ft_items.proofs.Lists.{nth_end, each_before, declared_last}
use Rattle.ft_common.proofs.Options.{none_some, some_none}
use Rattle.ft_sound.proofs.Structural.{from_when}
use Rattle.ft_reference.specs.Calls.{answer}
use Rattle.ft_reference.specs.Declare.{Outcome as Declaration, outcome, next_metavariable, RuleFault, OpenPremise, Draft, name_fault, first_outside, begin, premise}
use Rattle.ft_nucleus_laws.specs.Laws.{numbers, IsDraft}
use Rattle.ft_nucleus_laws.proofs.Declaring.{map_none, drafts_grow}
use Rattle.ft_meaning.specs.Trees.{Form, Binder, Body, type_body, term_body, types_body, terms_body, Premise}
use Rattle.ft_meaning.specs.Stages.{Stage, applications, programs, parts, binder_parts, body_parts, rule_parts}
use Rattle.ft_meaning.specs.Values.{Value, judgement, Environment, OfRule, nucleus, after_declaration, declare, as_judgement}
use Rattle.ft_meaning.specs.Forms.{meaning, judgement_of, make_variable}
use Rattle.ft_meaning.specs.Commands.{Bound, bind_all, boundary_by, abstract_all, after_premise, add_premise, declare_premises}
use Rattle.ft_meaning_laws.proofs.Grows.{Quiet, quiet_self, quiet_then, quiet_last}
use Rattle.ft_meaning_laws.proofs.Lists.{sound_last}
use Rattle.ft_meaning_laws.proofs.Made.{IsThesis, IsBoundary, IsMade, AreMade, thesis_later, are_made_later, holds_last, Kept, Keeps, keeps_bind, keeps_weaken, keeps_pure, keeps_judgement}
use Rattle.ft_meaning_laws.proofs.Calls.{Named, Answers, AnswersWith, keeps_nucleus_with, keeps_nucleus, named_one, named_two, IsVariable, variable_resolved, IsMetavariable, metavariable_resolved, keeps_make}
use Rattle.ft_meaning_laws.proofs.Built.{AllBuilt, rest_built, left_built, right_built}
use Rattle.ft_meaning_laws.proofs.Evaluations.{variable_later, keeps_meaning}

-- a plain boundary of the list
abbrev pub IsPlainBoundary : List Item → Assertion → Type 0
IsPlainBoundary items b = IsBoundary items b × (is_plain b.statement ≡ true)

plain_term : (x y : Statement) → term_boundary x ≡ Some y → is_plain y ≡ true
plain_term (plain (is_type A)) y e = ap is_plain (sym (same_Some _ y e))
plain_term x y e = none_some e

plain_types : (x y z : Statement) → type_equation_boundary x y ≡ Some z → is_plain z ≡ true
plain_types (plain (is_type A)) (plain (is_type B)) z e = ap is_plain (sym (same_Some _ z e))
plain_types x y z e = none_some e

plain_terms : (x y z w : Statement) → term_equation_boundary x y z ≡ Some w → is_plain w ≡ true
plain_terms (plain (is_type A)) (plain (has_type s C)) (plain (has_type t D)) w e = from_when (λ z. is_plain z ≡ true) _ _ w e (λ h. refl)
plain_terms x y z w e = none_some e

-- variables of a premise
abbrev pub AllBound : List Item → List Bound → Type 0
AllBound items [] = Unit {0}
AllBound items (x ∷ xs) = IsVariable items x.variable × AllBound items xs

all_bound_later : (xs ys : List Item) → Quiet xs ys → (vs : List Bound) → AllBound xs vs → AllBound ys vs
all_bound_later xs ys q [] h = tt
all_bound_later xs ys q (v ∷ vs) h = (variable_later xs ys q v.variable h.0, all_bound_later xs ys q vs h.1)

abbrev pub AreBound : List Item → Environment × List Bound → Type 0
AreBound items p = AreMade items p.0 × AllBound items p.1

-- drafts of a rule of a name
abbrev pub HasDraft : Name → List Item → Draft → Type 0
HasDraft n items d = IsDraft (declared_by items) d × (d.name ≡ n)

pub draft_later : (n : Name) (xs ys : List Item) → Quiet xs ys → (d : Draft) → HasDraft n xs d → HasDraft n ys d
draft_later n xs ys q d i = (
  record {
    named = each_before (declared_by xs) (declared_by ys) q.grows.declarations.metavariables (numbers d.premises) d.premises i.0.named;
    different = i.0.different;
    ordered = i.0.ordered;
  },
  i.1,
)

has_no_variable : (v : ℕ) (ds : List (ℕ × Declared)) → has (var v) (atoms ds) ≡ false
has_no_variable v [] = refl
has_no_variable v (d ∷ ds) = has_no_variable v ds

no_variables : (ds : List (ℕ × Declared)) (S : List Atom) → first_outside (atoms ds) S ≡ None → metavariables_only S ≡ true
no_variables ds [] h = refl
no_variables ds (met m ∷ S) h = go (has (met m) (atoms ds)) h (no_variables ds S)
  where
    go : (b : Bool) → cond b (first_outside (atoms ds) S) (Some (met m)) ≡ None → (first_outside (atoms ds) S ≡ None → metavariables_only S ≡ true) → metavariables_only S ≡ true
    go true e ih = ih e
    go false e ih = some_none e
no_variables ds (var v ∷ S) h = some_none (sym (ap (λ b. cond b (first_outside (atoms ds) S) (Some (var v))) (has_no_variable v ds)) ∙ h)

-- a premise is added to a draft: its metavariable and the draft
abbrev pub PremiseAdded : Name → List Item → (ℕ × Declared) × Draft → Type 0
PremiseAdded n items p = IsMetavariable items p.0 × HasDraft n items p.1

-- the draft and the named values after premises
abbrev pub DraftMade : Name → List Item → Draft × Environment → Type 0
DraftMade n items p = HasDraft n items p.0 × AreMade items p.1

module _ (B : Stage) where
  -- the four formers
  keeps_former : (items : List Item) (at : ℕ) (c : Resolved) → Named items c → concludes_thesis c ≡ false → ((x : Statement) → conclusion (declared_by items) c ≡ Some x → is_plain x ≡ true) → Keeps B Assertion IsPlainBoundary items (nucleus at (λ W. answer W c))
  keeps_former items at c n k f = keeps_weaken B Assertion (AnswersWith (λ x. is_plain x ≡ true) c) IsPlainBoundary items (nucleus at (λ W. answer W c)) (λ later a p. ((p.0.0, p.0.1 ∙ k), p.1)) (keeps_nucleus_with B (λ x. is_plain x ≡ true) items at c n f)

  keeps_premise : (name : Name) (items : List Item) (at : ℕ) (d : Draft) (n : Name) (b : Assertion) → HasDraft name items d → IsBoundary items b → Keeps B ((ℕ × Declared) × Draft) (PremiseAdded name) items (add_premise at d n b)
  keeps_premise name items at d n b i k s h = go (option_map (OpenPremise (suc (length d.premises))) (first_outside (atoms d.premises) b.set)) refl
    where
      W : Declarations
      W = declared_by items

      with_more : Declarations → Draft
      with_more Z = record d { premises = d.premises ++ (next_metavariable Z n b ∷ []) }

      done : Option RuleFault → Declarations → Declaration (Declarations × Draft) (ℕ × Declared) RuleFault
      done o Z = outcome o (Z, d) (add_metavariable Z n (Some b), with_more Z) (next_metavariable Z n b)

      item : Item
      item = metavariable n k.0.0

      named : (add (store_of items) item).declarations ≡ add_metavariable W n (Some b)
      named = ap (add_metavariable W n) k.0.1

      Added : Declarations → Declarations → Type 0
      Added X Z = (nth X.metavariables (length Z.metavariables) ≡ Some (declared_metavariable n b)) × IsDraft X (with_more Z)

      go : (o : Option RuleFault) → option_map (OpenPremise (suc (length d.premises))) (first_outside (atoms d.premises) b.set) ≡ o
          → Kept B ((ℕ × Declared) × Draft) (PremiseAdded name) items (after_premise at (done o s.declarations) s)
      go None e =
          let grown : IsDraft (premise W d n b).after.0 (premise W d n b).after.1 = drafts_grow.1 W d n b (next_metavariable W n b) i.0 (ap (λ z. (done z W).answer) e) in
          let here : Added (add_metavariable W n (Some b)) W = (nth_end W.metavariables (declared_metavariable n b), subst (λ z. IsDraft (done z W).after.0 (done z W).after.1) e grown) in
          let there : Added (add_metavariable W n (Some b)) s.declarations = subst (Added (add_metavariable W n (Some b))) (sym h.declarations) here in
          let last : Added (declared_by (items ++ (item ∷ []))) s.declarations = subst (λ z. Added z s.declarations) (sym (declared_last items item ∙ named)) there in
          record {
            later = items ++ (item ∷ []);
            quiet = quiet_last items item refl;
            holds = holds_last B items item s (record s { declarations = add_metavariable s.declarations n (Some b) }) h
                (sound_last B items item h.list (b, k.0.1, k.1, no_variables d.premises b.set (map_none (OpenPremise (suc (length d.premises))) (first_outside (atoms d.premises) b.set) e)))
                refl (ap (λ z. add_metavariable z n (Some b)) h.declarations ∙ sym named) (subst (λ (z : Declarations). is_next z.variables s.units.used ≡ true) (sym named) h.next);
            gives = (last.0, (last.1, i.1));
          }
      go (Some f) e = record { later = items; quiet = quiet_self items; holds = h; gives = tt }

  pub keeps_begin : (items : List Item) (at : ℕ) (n : Name) → Keeps B Draft (HasDraft n) items (declare OfRule at (λ W. begin W n))
  keeps_begin items at n s h = go (name_fault s.declarations n)
    where
      go : (o : Option RuleFault) → Kept B Draft (HasDraft n) items (after_declaration OfRule at (outcome {A = Draft} o s.declarations s.declarations (record { name = n; premises = [] })).after (outcome {A = Draft} o s.declarations s.declarations (record { name = n; premises = [] })).answer s)
      go None = record { later = items; quiet = quiet_self items; holds = record { list = h.list; equality = h.equality; declarations = h.declarations; next = h.next }; gives = (record { named = refl; different = refl; ordered = refl }, refl) }
      go (Some e) = record { later = items; quiet = quiet_self items; holds = h; gives = tt }

  pub keeps_judgement_of : (ns : List Name) (e : Form) → AllBuilt B (parts ns e) → (items : List Item) (G : Environment) → AreMade items G → Keeps B Assertion IsThesis items (judgement_of e G)
  keeps_judgement_of ns e u items G g = keeps_bind B Value Assertion IsMade IsThesis items (meaning e G) as_judgement (keeps_meaning B ns e u items G g) (λ xs q v m. keeps_judgement B xs v m)

  keeps_binders : (ns : List Name) (bs : List Binder) → AllBuilt B (binder_parts ns bs) → (items : List Item) (G : Environment) (vs : List Bound) → AreMade items G → AllBound items vs → Keeps B (Environment × List Bound) AreBound items (bind_all bs G vs)
  keeps_binders ns [] u items G vs g h = keeps_pure B (Environment × List Bound) AreBound items (G, vs) (g, h)
  keeps_binders ns (b ∷ bs) u items G vs g h =
      let k : AllBuilt B (parts ns b.domain ++ binder_parts ns bs) = rest_built B programs b.at _ u in
      keeps_bind B Assertion (Environment × List Bound) IsThesis AreBound items (judgement_of b.domain G) _ (keeps_judgement_of ns b.domain (left_built B _ _ k) items G g) (λ xs q A a.
      keeps_bind B (ℕ × Annotation) (Environment × List Bound) IsVariable AreBound xs (make_variable b.name.at b.name.name A) _ (keeps_make B xs b.name.at b.name.name A a.0) (λ ys r x i.
      keeps_bind B Assertion (Environment × List Bound) (Answers (by_var x)) AreBound ys (nucleus b.name.at (λ W. answer W (by_var x))) _ (keeps_nucleus B ys b.name.at (by_var x) (by_var x.0, ap (with_one by_var) (variable_resolved ys x i))) (λ zs t j p.
      let here : Quiet items zs = quiet_then items xs zs q (quiet_then xs ys zs r t) in
      keeps_binders ns bs (right_built B _ _ k) zs ((b.name.name, judgement j) ∷ G) (record { at = b.name.at; variable = x } ∷ vs) (p, are_made_later items zs here G g) (variable_later ys zs t x i, all_bound_later items zs here vs h))))

  pub keeps_boundary : (ns : List Name) (at : ℕ) (b : Body) → AllBuilt B (body_parts ns at b) → (items : List Item) (G : Environment) → AreMade items G → Keeps B Assertion IsPlainBoundary items (boundary_by at b G)
  keeps_boundary ns at type_body u items G g = keeps_former items at by_btype (by_btype, refl) refl (λ x e. ap is_plain (sym (same_Some _ x e)))
  keeps_boundary ns at (term_body e) u items G g =
      keeps_bind B Assertion Assertion IsThesis IsPlainBoundary items (judgement_of e G) (λ A. nucleus at (λ W. answer W (by_bterm A))) (keeps_judgement_of ns e (rest_built B applications at _ u) items G g) (λ xs q A a.
      keeps_former xs at (by_bterm A) (named_one xs by_bterm by_bterm (λ n. refl) A a.0) refl (λ x h. plain_term A.statement x h))
  keeps_boundary ns at (types_body e f) u items G g =
      let k : AllBuilt B (parts ns e ++ parts ns f) = rest_built B programs at _ u in
      keeps_bind B Assertion Assertion IsThesis IsPlainBoundary items (judgement_of e G) _ (keeps_judgement_of ns e (left_built B _ _ k) items G g) (λ xs q A a.
      keeps_bind B Assertion Assertion IsThesis IsPlainBoundary xs (judgement_of f G) _ (keeps_judgement_of ns f (right_built B _ _ k) xs G (are_made_later items xs q G g)) (λ ys r C c.
      keeps_former ys at (by_beqty A C) (named_two ys by_beqty by_beqty (λ n m. refl) A C (thesis_later xs ys r A a).0 c.0) refl (λ x h. plain_types A.statement C.statement x h)))
  keeps_boundary ns at (terms_body e f l) u items G g =
      let k : AllBuilt B (parts ns e ++ parts ns f ++ parts ns l) = rest_built B programs at _ u in
      keeps_bind B Assertion Assertion IsThesis IsPlainBoundary items (judgement_of e G) _ (keeps_judgement_of ns e (left_built B _ _ (left_built B _ _ k)) items G g) (λ xs q s a.
      keeps_bind B Assertion Assertion IsThesis IsPlainBoundary xs (judgement_of f G) _ (keeps_judgement_of ns f (right_built B _ _ (left_built B _ _ k)) xs G (are_made_later items xs q G g)) (λ ys r t c.
      keeps_bind B Assertion Assertion IsThesis IsPlainBoundary ys (judgement_of l G) _ (keeps_judgement_of ns l (right_built B _ _ k) ys G (are_made_later items ys (quiet_then items xs ys q r) G g)) (λ zs p A d.
      let first : IsThesis zs s = thesis_later xs zs (quiet_then xs ys zs r p) s a in
      let second : IsThesis zs t = thesis_later ys zs p t c in
      keeps_former zs at (by_beqtm A s t)
      (by_beqtm d.0.0 first.0.0 second.0.0, ap (λ o. with_three by_beqtm o (entry_named (store_of zs) first.0.0) (entry_named (store_of zs) second.0.0)) d.0.1 ∙ ap₂ (with_three by_beqtm (Some A)) first.0.1 second.0.1) refl
      (λ x h. plain_terms A.statement s.statement t.statement x h))))

  keeps_abstract_all : (vs : List Bound) (items : List Item) (b : Assertion) → AllBound items vs → IsBoundary items b → Keeps B Assertion IsBoundary items (abstract_all vs b)
  keeps_abstract_all [] items b h k = keeps_pure B Assertion IsBoundary items b k
  keeps_abstract_all (x ∷ vs) items b h k =
      keeps_bind B Assertion Assertion (Answers (by_abs x.variable b)) IsBoundary items (nucleus x.at (λ W. answer W (by_abs x.variable b))) (abstract_all vs)
      (keeps_nucleus B items x.at (by_abs x.variable b) (by_abs x.variable.0 k.0.0, ap₂ (with_two by_abs) (variable_resolved items x.variable h.0) k.0.1)) (λ xs q c p.
      keeps_abstract_all vs xs c (all_bound_later items xs q vs h.1) (p.0, p.1 ∙ k.1))

  pub keeps_premises : (name : Name) (ns : List Name) (ps : List Premise) (c_at : ℕ) (body : Body) → AllBuilt B (rule_parts ns ps c_at body) → (items : List Item) (d : Draft) (G : Environment) → HasDraft name items d → AreMade items G → Keeps B (Draft × Environment) (DraftMade name) items (declare_premises ps d G)
  keeps_premises name ns [] c_at body u items d G i g = keeps_pure B (Draft × Environment) (DraftMade name) items (d, G) (i, g)
  keeps_premises name ns (p ∷ ps) c_at body u items d G i g =
      let k : AllBuilt B (binder_parts ns p.binders ++ body_parts ns p.body_at p.body) = left_built B _ _ u in
      keeps_bind B (Environment × List Bound) (Draft × Environment) AreBound (DraftMade name) items (bind_all p.binders G []) _ (keeps_binders ns p.binders (left_built B _ _ k) items G [] g tt) (λ xs q H h.
      keeps_bind B Assertion (Draft × Environment) IsPlainBoundary (DraftMade name) xs (boundary_by p.body_at p.body H.0) _ (keeps_boundary ns p.body_at p.body (right_built B _ _ k) xs H.0 h.0) (λ ys r b o.
      keeps_bind B Assertion (Draft × Environment) IsBoundary (DraftMade name) ys (abstract_all H.1 b) _ (keeps_abstract_all H.1 ys b (all_bound_later xs ys r H.1 h.1) o.0) (λ zs t c l.
      let here : Quiet items zs = quiet_then items xs zs q (quiet_then xs ys zs r t) in
      keeps_bind B ((ℕ × Declared) × Draft) (Draft × Environment) (PremiseAdded name) (DraftMade name) zs (add_premise p.at d p.name.name c) _ (keeps_premise name zs p.at d p.name.name c (draft_later name items zs here d i) l) (λ ws a m n.
      keeps_bind B Assertion (Draft × Environment) (Answers (by_generic m.0)) (DraftMade name) ws (nucleus p.at (λ W. answer W (by_generic m.0))) _
      (keeps_nucleus B ws p.at (by_generic m.0) (by_generic m.0.0, ap (with_one by_generic) (metavariable_resolved ws m.0 n.0))) (λ us f j w.
      keeps_premises name (p.name.name ∷ ns) ps c_at body (right_built B _ _ u) us m.1 ((p.name.name, judgement j) ∷ G) (draft_later name ws us f m.1 n.1)
      (w, are_made_later items us (quiet_then items zs us here (quiet_then zs ws us a f)) G g))))))
