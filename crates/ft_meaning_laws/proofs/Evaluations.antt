-- Forms keep to entries of the list.
use Rattle.std.proofs.Common.{◌≡◌, ℕ, true, false, Option, Some, None, Ok, Err, List, [], ◌∷◌, ◌++◌, refl, ap, ap₂, ◌∙◌}
use Rattle.ft_items.specs.Item.{Name, Item, by_var, by_rule, by_inst, by_cong, by_arg}
use Rattle.ft_items.specs.Store.{Assertion, Annotation, with_one, with_two, with_three, entry_named, each, store_of}
use Rattle.ft_items.specs.Good.{equal_names}
use Rattle.ft_theory.specs.Rules.{Rule}
use Rattle.ft_reference.specs.Calls.{answer}
use Rattle.ft_meaning.specs.Names.{named}
use Rattle.ft_meaning.specs.Trees.{Form, let_in, if_then, match_with, handle_with, abstraction, cons_of, one, two, argument, congruence, perform, call, substitution, truth_of, unit_of, pair_of, none_of, nil_of, Forms, no_forms, and_form, Cases, no_cases, and_case, ValueCase, no_value_case, value_case, Handlers, no_handlers, and_handler, place}
use Rattle.ft_meaning.specs.Stages.{Stage, programs, operations, word_feature, word_feature_of_two, call_feature, parts, all_parts, case_parts, value_parts, handler_parts}
use Rattle.ft_meaning.specs.Values.{Value, judgement, unit, truth, pair, nil, cons, none, Environment, NoMatch, fails, stuck, performs, halts, Outcome, Run, ◌>>=◌, pure, end, nucleus, the_rule, as_judgement, as_judgements}
use Rattle.ft_meaning.specs.Matching.{matches}
use Rattle.ft_meaning.specs.Forms.{judged, fitting, make_variable, abstract_value, substitute_value, word_at, word_at_two, handled, branch, value_or_rule, meaning, applied, substituted, first_match, of_value, of_operation}
use Rattle.ft_meaning_laws.proofs.Grows.{Quiet, quiet_then}
use Rattle.ft_meaning_laws.proofs.Built.{AllBuilt, here_built, rest_built, left_built, right_built}
use Rattle.ft_meaning_laws.proofs.Made.{IsThesis, AllTheses, IsMade, AreMade, IfMade, ValueIsMade, thesis_later, theses_later, made_later, are_made_later, named_is_made, Kept, Keeps, keeps_bind, keeps_spending, keeps_pure, keeps_end, keeps_halt, keeps_cond, keeps_judgement, keeps_judgements}
use Rattle.ft_meaning_laws.proofs.Calls.{Answers, keeps_nucleus, keeps_judged, named_one, each_entry, IsRule, IsVariable, rule_resolved, variable_resolved, keeps_rule, keeps_make}
use Rattle.ft_meaning_laws.proofs.Words.{keeps_fitting, keeps_abstract, keeps_substitute, keeps_word, keeps_word_two, keeps_found, keeps_match}

-- what stays
pub rule_later : (xs ys : List Item) → Quiet xs ys → (r : ℕ × Rule) → IsRule xs r → IsRule ys r
rule_later xs ys q r h = q.grows.declarations.rules r.0 r.1 h

pub variable_later : (xs ys : List Item) → Quiet xs ys → (v : ℕ × Annotation) → IsVariable xs v → IsVariable ys v
variable_later xs ys q v h = q.grows.declarations.variables v.0 v.1 h

theses_last : (items : List Item) (js : List Assertion) (k : Assertion) → AllTheses items js → IsThesis items k → AllTheses items (js ++ k ∷ [])
theses_last items [] k h l = (l, tt)
theses_last items (j ∷ js) k h l = (h.0, theses_last items js k h.1 l)

module _ (B : Stage) where
  -- choices
  keeps_branch : (items : List Item) (v : Value) (m n : Run Value) → Keeps B Value IsMade items m → Keeps B Value IsMade items n → Keeps B Value IsMade items (branch v m n)
  keeps_branch items (truth true) m n k l = k
  keeps_branch items (truth false) m n k l = l
  keeps_branch items v m n k l = keeps_halt B Value IsMade items stuck

  keeps_named : (items : List Item) (o : Option Value) (es : Forms) (m : Run Value) → ValueIsMade items o → Keeps B Value IsMade items m → Keeps B Value IsMade items (value_or_rule o es m)
  keeps_named items (Some v) no_forms m h k = keeps_pure B Value IsMade items v h
  keeps_named items (Some v) (and_form e es) m h k = keeps_halt B Value IsMade items stuck
  keeps_named items None es m h k = k

  kept_handled : (items : List Item) (value : Value → Run Value) (operation : Name → Value → ℕ → Run Value) (o : Outcome Value) → Kept B Value IsMade items o
      → ((later : List Item) → Quiet items later → (v : Value) → IsMade later v → Keeps B Value IsMade later (value v))
      → ((later : List Item) → Quiet items later → (op : Name) (v : Value) (at : ℕ) → IsMade later v → Keeps B Value IsMade later (operation op v at))
      → Kept B Value IsMade items (handled value operation o)
  kept_handled items value operation (Ok v, s) k f g =
      let r : Kept B Value IsMade k.later (value v s) = f k.later k.quiet v k.gives s k.holds in
      record { later = r.later; quiet = quiet_then items k.later r.later k.quiet r.quiet; holds = r.holds; gives = r.gives }
  kept_handled items value operation (Err (performs op v at), s) k f g =
      let r : Kept B Value IsMade k.later (operation op v at s) = g k.later k.quiet op v at k.gives s k.holds in
      record { later = r.later; quiet = quiet_then items k.later r.later k.quiet r.quiet; holds = r.holds; gives = r.gives }
  kept_handled items value operation (Err (halts h), s) k f g = record { later = k.later; quiet = k.quiet; holds = k.holds; gives = tt }

  -- a value, and what follows
  then_value : (items : List Item) (m : Run Value) (next : Value → Run Value) → Keeps B Value IsMade items m → ((later : List Item) → Quiet items later → (v : Value) → IsMade later v → Keeps B Value IsMade later (next v)) → Keeps B Value IsMade items (m >>= next)
  then_value items m next k f = keeps_bind B Value Value IsMade IsMade items m next k f

  then_judgement : (items : List Item) (v : Value) (next : Assertion → Run Value) → IsMade items v → ((later : List Item) → Quiet items later → (j : Assertion) → IsThesis later j → Keeps B Value IsMade later (next j)) → Keeps B Value IsMade items (as_judgement v >>= next)
  then_judgement items v next h f = keeps_bind B Assertion Value IsThesis IsMade items (as_judgement v) next (keeps_judgement B items v h) f

  module _ (ns : List Name) where
    mutual
      pub keeps_meaning : (e : Form) → AllBuilt B (parts ns e) → (items : List Item) (G : Environment) → AreMade items G → Keeps B Value IsMade items (meaning e G)
      keeps_meaning (let_in at x e f) u items G g =
          let k : AllBuilt B (parts ns e ++ parts ns f) = rest_built B programs at _ u in
          keeps_spending B Value IsMade items at (meaning e G >>= λ v. meaning f ((x.name, v) ∷ G)) (λ xs q.
          then_value xs (meaning e G) (λ v. meaning f ((x.name, v) ∷ G)) (keeps_meaning e (left_built B _ _ k) xs G (are_made_later items xs q G g)) (λ ys r v m.
          keeps_meaning f (right_built B _ _ k) ys ((x.name, v) ∷ G) (m, are_made_later items ys (quiet_then items xs ys q r) G g)))
      keeps_meaning (if_then at e f h) u items G g =
          let k : AllBuilt B (parts ns e ++ parts ns f ++ parts ns h) = rest_built B programs at _ u in
          let l : AllBuilt B (parts ns e ++ parts ns f) = left_built B _ _ k in
          keeps_spending B Value IsMade items at _ (λ xs q.
          then_value xs (meaning e G) _ (keeps_meaning e (left_built B _ _ l) xs G (are_made_later items xs q G g)) (λ ys r v m.
          keeps_branch ys v (meaning f G) (meaning h G)
          (keeps_meaning f (right_built B _ _ l) ys G (are_made_later items ys (quiet_then items xs ys q r) G g))
          (keeps_meaning h (right_built B _ _ k) ys G (are_made_later items ys (quiet_then items xs ys q r) G g))))
      keeps_meaning (match_with at e cs) u items G g =
          let k : AllBuilt B (parts ns e ++ case_parts ns cs) = rest_built B programs at _ u in
          keeps_spending B Value IsMade items at (meaning e G >>= λ v. first_match at cs v G) (λ xs q.
          then_value xs (meaning e G) (λ v. first_match at cs v G) (keeps_meaning e (left_built B _ _ k) xs G (are_made_later items xs q G g)) (λ ys r v m.
          keeps_first cs (right_built B _ _ k) ys at v G m (are_made_later items ys (quiet_then items xs ys q r) G g)))
      keeps_meaning (handle_with at e c hs) u items G g =
          let k : AllBuilt B (parts ns e ++ value_parts ns c ++ handler_parts ns hs) = rest_built B operations at _ u in
          let l : AllBuilt B (parts ns e ++ value_parts ns c) = left_built B _ _ k in
          keeps_spending B Value IsMade items at (λ s. handled (λ v. of_value c v G) (λ op v p. of_operation hs op v p G) (meaning e G s)) (λ xs q s h.
          kept_handled xs (λ v. of_value c v G) (λ op v p. of_operation hs op v p G) (meaning e G s) (keeps_meaning e (left_built B _ _ l) xs G (are_made_later items xs q G g) s h)
          (λ ys r v m. keeps_value c (right_built B _ _ l) ys v G m (are_made_later items ys (quiet_then items xs ys q r) G g))
          (λ ys r op v p m. keeps_operation hs (right_built B _ _ k) ys op v p G m (are_made_later items ys (quiet_then items xs ys q r) G g)))
      keeps_meaning (abstraction at x e f) u items G g =
          let k : AllBuilt B (parts ns e ++ parts ns f) = rest_built B programs at _ u in
          keeps_spending B Value IsMade items at _ (λ xs q.
          then_value xs (meaning e G) _ (keeps_meaning e (left_built B _ _ k) xs G (are_made_later items xs q G g)) (λ ys r v m.
          then_judgement ys v _ m (λ zs t A h.
          keeps_bind B (ℕ × Annotation) Value IsVariable IsMade zs (make_variable at x.name A) _ (keeps_make B zs at x.name A h.0) (λ ws a y i.
          keeps_bind B Assertion Value (Answers (by_var y)) IsMade ws (nucleus at (λ W. answer W (by_var y))) (λ j. meaning f ((x.name, judgement j) ∷ G) >>= abstract_value at y)
          (keeps_nucleus B ws at (by_var y) (by_var y.0, ap (with_one by_var) (variable_resolved ws y i))) (λ vs b j p.
          let here : Quiet items vs = quiet_then items ys vs (quiet_then items xs ys q r) (quiet_then ys zs vs t (quiet_then zs ws vs a b)) in
          then_value vs (meaning f ((x.name, judgement j) ∷ G)) (abstract_value at y) (keeps_meaning f (right_built B _ _ k) vs ((x.name, judgement j) ∷ G) (p, are_made_later items vs here G g)) (λ us c w n.
          keeps_abstract B us at y w (variable_later ws us (quiet_then ws vs us b c) y i) n))))))
      keeps_meaning (cons_of at e f) u items G g =
          let k : AllBuilt B (parts ns e ++ parts ns f) = rest_built B programs at _ u in
          keeps_spending B Value IsMade items at _ (λ xs q.
          then_value xs (meaning e G) (λ v. meaning f G >>= λ w. pure (cons v w)) (keeps_meaning e (left_built B _ _ k) xs G (are_made_later items xs q G g)) (λ ys r v m.
          then_value ys (meaning f G) (λ w. pure (cons v w)) (keeps_meaning f (right_built B _ _ k) ys G (are_made_later items ys (quiet_then items xs ys q r) G g)) (λ zs t w n.
          keeps_pure B Value IsMade zs (cons v w) (made_later ys zs t v m, n))))
      keeps_meaning (one at w e) u items G g =
          keeps_spending B Value IsMade items at (meaning e G >>= word_at at w) (λ xs q.
          then_value xs (meaning e G) (word_at at w) (keeps_meaning e (rest_built B (word_feature w) at _ u) xs G (are_made_later items xs q G g)) (λ ys r v m.
          keeps_word B ys at w v (here_built B (word_feature w) at _ u) m))
      keeps_meaning (two at w e f) u items G g =
          let k : AllBuilt B (parts ns e ++ parts ns f) = rest_built B (word_feature_of_two w) at _ u in
          keeps_spending B Value IsMade items at _ (λ xs q.
          then_value xs (meaning e G) (λ v. meaning f G >>= word_at_two at (place f) w v) (keeps_meaning e (left_built B _ _ k) xs G (are_made_later items xs q G g)) (λ ys r v m.
          then_value ys (meaning f G) (word_at_two at (place f) w v) (keeps_meaning f (right_built B _ _ k) ys G (are_made_later items ys (quiet_then items xs ys q r) G g)) (λ zs t x n.
          keeps_word_two B zs at (place f) w v x (here_built B (word_feature_of_two w) at _ u) (made_later ys zs t v m) n)))
      keeps_meaning (argument at e i) u items G g =
          keeps_spending B Value IsMade items at _ (λ xs q.
          then_value xs (meaning e G) (λ v. as_judgement v >>= λ j. judged at (λ W. answer W (by_arg i j))) (keeps_meaning e (rest_built B programs at _ u) xs G (are_made_later items xs q G g)) (λ ys r v m.
          then_judgement ys v (λ j. judged at (λ W. answer W (by_arg i j))) m (λ zs t j h.
          keeps_judged B zs at (by_arg i j) (named_one zs (by_arg i) (by_arg i) (λ n. refl) j h.0) refl)))
      keeps_meaning (congruence at R e f) u items G g =
          let k : AllBuilt B (parts ns e ++ parts ns f) = rest_built B programs at _ u in
          keeps_spending B Value IsMade items at _ (λ xs q.
          then_value xs (meaning e G) _ (keeps_meaning e (left_built B _ _ k) xs G (are_made_later items xs q G g)) (λ ys r v m.
          then_value ys (meaning f G) _ (keeps_meaning f (right_built B _ _ k) ys G (are_made_later items ys (quiet_then items xs ys q r) G g)) (λ zs t w n.
          keeps_bind B (List Assertion) Value AllTheses IsMade zs (as_judgements v) _ (keeps_judgements B zs v (made_later ys zs t v m)) (λ ws a js p.
          keeps_bind B (List Assertion) Value AllTheses IsMade ws (as_judgements w) _ (keeps_judgements B ws w (made_later zs ws a w n)) (λ vs b es l.
          keeps_bind B (ℕ × Rule) Value IsRule IsMade vs (the_rule R.name) (λ r. judged at (λ W. answer W (by_cong r js es))) (keeps_rule B vs R.name) (λ us c r i.
          let left : (ks : List ℕ) × (each (entry_named (store_of us)) ks ≡ Some js) = each_entry us js (theses_later ws us (quiet_then ws vs us b c) js p) in
          let equations : (ks : List ℕ) × (each (entry_named (store_of us)) ks ≡ Some es) = each_entry us es (theses_later vs us c es l) in
          keeps_judged B us at (by_cong r js es)
          (by_cong r.0 left.0 equations.0, ap (λ o. with_three by_cong o (each (entry_named (store_of us)) left.0) (each (entry_named (store_of us)) equations.0)) (rule_resolved us r i) ∙ ap₂ (with_three by_cong (Some r)) left.1 equations.1) refl))))))
      keeps_meaning (perform at op e) u items G g =
          keeps_spending B Value IsMade items at _ (λ xs q.
          then_value xs (meaning e G) (λ v. end (performs op.name v at)) (keeps_meaning e (rest_built B operations at _ u) xs G (are_made_later items xs q G g)) (λ ys r v m.
          keeps_end B Value IsMade ys (performs op.name v at) m))
      keeps_meaning (call at x es) u items G g =
          keeps_spending B Value IsMade items at _ (λ xs q.
          keeps_named xs (named G x.name) es (the_rule x.name >>= λ r. applied at r es G []) (named_is_made xs G x.name (are_made_later items xs q G g))
          (keeps_bind B (ℕ × Rule) Value IsRule IsMade xs (the_rule x.name) (λ r. applied at r es G []) (keeps_rule B xs x.name) (λ ys r R i.
          keeps_applied es (rest_built B (call_feature ns x.name) at _ u) ys at R G [] i (are_made_later items ys (quiet_then items xs ys q r) G g) tt)))
      keeps_meaning (substitution at e es) u items G g =
          let k : AllBuilt B (parts ns e ++ all_parts ns es) = rest_built B programs at _ u in
          keeps_spending B Value IsMade items at (meaning e G >>= λ v. substituted at es v G) (λ xs q.
          then_value xs (meaning e G) (λ v. substituted at es v G) (keeps_meaning e (left_built B _ _ k) xs G (are_made_later items xs q G g)) (λ ys r v m.
          keeps_substituted es (right_built B _ _ k) ys at v G m (are_made_later items ys (quiet_then items xs ys q r) G g)))
      keeps_meaning (truth_of at b) u items G g = keeps_spending B Value IsMade items at (pure (truth b)) (λ xs q. keeps_pure B Value IsMade xs (truth b) tt)
      keeps_meaning (unit_of at) u items G g = keeps_spending B Value IsMade items at (pure unit) (λ xs q. keeps_pure B Value IsMade xs unit tt)
      keeps_meaning (pair_of at e f) u items G g =
          let k : AllBuilt B (parts ns e ++ parts ns f) = rest_built B programs at _ u in
          keeps_spending B Value IsMade items at _ (λ xs q.
          then_value xs (meaning e G) (λ v. meaning f G >>= λ w. pure (pair v w)) (keeps_meaning e (left_built B _ _ k) xs G (are_made_later items xs q G g)) (λ ys r v m.
          then_value ys (meaning f G) (λ w. pure (pair v w)) (keeps_meaning f (right_built B _ _ k) ys G (are_made_later items ys (quiet_then items xs ys q r) G g)) (λ zs t w n.
          keeps_pure B Value IsMade zs (pair v w) (made_later ys zs t v m, n))))
      keeps_meaning (none_of at A) u items G g = keeps_spending B Value IsMade items at (pure none) (λ xs q. keeps_pure B Value IsMade xs none tt)
      keeps_meaning (nil_of at A) u items G g = keeps_spending B Value IsMade items at (pure nil) (λ xs q. keeps_pure B Value IsMade xs nil tt)

      pub keeps_applied : (es : Forms) → AllBuilt B (all_parts ns es) → (items : List Item) (at : ℕ) (r : ℕ × Rule) (G : Environment) (js : List Assertion) → IsRule items r → AreMade items G → AllTheses items js → Keeps B Value IsMade items (applied at r es G js)
      keeps_applied no_forms u items at r G js i g h =
          let k : (ks : List ℕ) × (each (entry_named (store_of items)) ks ≡ Some js) = each_entry items js h in
          keeps_judged B items at (by_rule r js) (by_rule r.0 k.0, ap₂ (with_two by_rule) (rule_resolved items r i) k.1) refl
      keeps_applied (and_form e es) u items at r G js i g h =
          keeps_bind B Value Value IsMade IsMade items (meaning e G) _ (keeps_meaning e (left_built B _ _ u) items G g) (λ xs q v m.
          then_judgement xs v _ m (λ ys t j p.
          let here : Quiet items ys = quiet_then items xs ys q t in
          let k : (ks : List ℕ) × (each (entry_named (store_of ys)) ks ≡ Some js) = each_entry ys js (theses_later items ys here js h) in
          keeps_bind B Assertion Value (Answers (by_inst r js)) IsMade ys (nucleus (place e) (λ W. answer W (by_inst r js))) _
          (keeps_nucleus B ys (place e) (by_inst r js) (by_inst r.0 k.0, ap₂ (with_two by_inst) (rule_resolved ys r (rule_later items ys here r i)) k.1)) (λ zs a b n.
          keeps_bind B Assertion Value IsThesis IsMade zs (fitting (place e) j b) (λ k. applied at r es G (js ++ k ∷ [])) (keeps_fitting B zs (place e) j b (thesis_later ys zs a j p) n) (λ ws c l o.
          let now : Quiet items ws = quiet_then items ys ws here (quiet_then ys zs ws a c) in
          keeps_applied es (right_built B _ _ u) ws at r G (js ++ l ∷ []) (rule_later items ws now r i) (are_made_later items ws now G g) (theses_last ws js l (theses_later items ws now js h) o)))))

      pub keeps_substituted : (es : Forms) → AllBuilt B (all_parts ns es) → (items : List Item) (at : ℕ) (v : Value) (G : Environment) → IsMade items v → AreMade items G → Keeps B Value IsMade items (substituted at es v G)
      keeps_substituted no_forms u items at v G h g = keeps_pure B Value IsMade items v h
      keeps_substituted (and_form e es) u items at v G h g =
          keeps_bind B Value Value IsMade IsMade items (meaning e G) _ (keeps_meaning e (left_built B _ _ u) items G g) (λ xs q w m.
          then_judgement xs w _ m (λ ys t j p.
          then_value ys (substitute_value at v j) (λ w. substituted at es w G) (keeps_substitute B ys at v j (made_later items ys (quiet_then items xs ys q t) v h) p) (λ zs a x n.
          keeps_substituted es (right_built B _ _ u) zs at x G n (are_made_later items zs (quiet_then items ys zs (quiet_then items xs ys q t) a) G g))))

      pub keeps_first : (cs : Cases) → AllBuilt B (case_parts ns cs) → (items : List Item) (at : ℕ) (v : Value) (G : Environment) → IsMade items v → AreMade items G → Keeps B Value IsMade items (first_match at cs v G)
      keeps_first no_cases u items at v G h g = keeps_halt B Value IsMade items (fails NoMatch at)
      keeps_first (and_case p e cs) u items at v G h g =
          keeps_bind B (Option Environment) Value IfMade IsMade items (matches at p v G) _ (keeps_match B items at p v G h g) (λ xs q found m.
          keeps_found B Value IsMade xs found (meaning e) (first_match at cs v G) m (keeps_meaning e (left_built B _ _ u) xs)
          (keeps_first cs (right_built B _ _ u) xs at v G (made_later items xs q v h) (are_made_later items xs q G g)))

      pub keeps_value : (c : ValueCase) → AllBuilt B (value_parts ns c) → (items : List Item) (v : Value) (G : Environment) → IsMade items v → AreMade items G → Keeps B Value IsMade items (of_value c v G)
      keeps_value no_value_case u items v G h g = keeps_pure B Value IsMade items v h
      keeps_value (value_case x e) u items v G h g = keeps_meaning e u items ((x.name, v) ∷ G) (h, g)

      pub keeps_operation : (hs : Handlers) → AllBuilt B (handler_parts ns hs) → (items : List Item) (op : Name) (v : Value) (at : ℕ) (G : Environment) → IsMade items v → AreMade items G → Keeps B Value IsMade items (of_operation hs op v at G)
      keeps_operation no_handlers u items op v at G h g = keeps_end B Value IsMade items (performs op v at) h
      keeps_operation (and_handler o x e hs) u items op v at G h g =
          keeps_cond B Value IsMade items (equal_names o.name op) (meaning e ((x.name, v) ∷ G)) (of_operation hs op v at G)
          (keeps_meaning e (left_built B _ _ u) items ((x.name, v) ∷ G) (h, g))
          (keeps_operation hs (right_built B _ _ u) items op v at G h g)
