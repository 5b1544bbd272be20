-- The names of the premises before do not matter: a call is built, whatever it calls.
use Rattle.std.proofs.Common.{◌≡◌, ◌∙◌, ℕ, Bool, true, false, cond, Some, List, [], ◌∷◌, ◌++◌, refl, sym, ap, append_assoc}
use Rattle.std.specs.Prelude.{flat_map}
use Rattle.ft_items.specs.Item.{Name}
use Rattle.ft_grammar.specs.declared.syntax.Named.{Named}
use Rattle.ft_grammar.specs.declared.syntax.Conclusion.{Conclusion}
use Rattle.ft_grammar.specs.declared.syntax.Conclusion.TheVariants as conclusion
use Rattle.ft_meaning.specs.Names.{is_among}
use Rattle.ft_meaning.specs.Trees.{Form, let_in, if_then, match_with, handle_with, abstraction, cons_of, one, two, argument, congruence, perform, call, substitution, truth_of, unit_of, pair_of, none_of, nil_of, Forms, no_forms, and_form, Cases, no_cases, and_case, ValueCase, no_value_case, value_case, Handlers, no_handlers, and_handler, Binder, Body, type_body, term_body, types_body, terms_body, Premise, form, equation_body, rule_by}
use Rattle.ft_meaning.specs.Stages.{SourcePart, programs, applications, no_equality, word_feature, word_feature_of_two, parts, all_parts, case_parts, value_parts, handler_parts, body_parts, binder_parts, rule_parts, command_parts}
use Rattle.ft_stages.specs.First.{first, premise_parts, conclusion_in}
use Rattle.ft_stages.proofs.Firsts.{first_same}

-- a call is built
pub call_built : (b : Bool) (at : ℕ) (ps : List SourcePart) → first ((cond b programs applications, at) ∷ ps) ≡ first ps
call_built true at ps = refl
call_built false at ps = refl

module _ (ns : List Name) where
  -- of two forms, where it is so of each
  of_two : (e f : Form) → first (parts ns e) ≡ first (parts [] e) → first (parts ns f) ≡ first (parts [] f) → first (parts ns e ++ parts ns f) ≡ first (parts [] e ++ parts [] f)
  of_two e f h k = first_same (parts ns e) (parts ns f) (parts [] e) (parts [] f) h k

  -- of three
  of_three : (e f g : Form) → first (parts ns e) ≡ first (parts [] e) → first (parts ns f) ≡ first (parts [] f) → first (parts ns g) ≡ first (parts [] g)
      → first (parts ns e ++ parts ns f ++ parts ns g) ≡ first (parts [] e ++ parts [] f ++ parts [] g)
  of_three e f g h k l = first_same (parts ns e ++ parts ns f) (parts ns g) (parts [] e ++ parts [] f) (parts [] g) (of_two e f h k) l

  mutual
    pub of_form : (e : Form) → first (parts ns e) ≡ first (parts [] e)
    of_form (let_in at x e f) = of_two e f (of_form e) (of_form f)
    of_form (if_then at e f g) = of_three e f g (of_form e) (of_form f) (of_form g)
    of_form (match_with at e cs) = first_same (parts ns e) (case_parts ns cs) (parts [] e) (case_parts [] cs) (of_form e) (of_cases cs)
    of_form (handle_with at e v hs) =
        first_same (parts ns e ++ value_parts ns v) (handler_parts ns hs) (parts [] e ++ value_parts [] v) (handler_parts [] hs)
        (first_same (parts ns e) (value_parts ns v) (parts [] e) (value_parts [] v) (of_form e) (of_value v)) (of_handlers hs)
    of_form (abstraction at x e f) = of_two e f (of_form e) (of_form f)
    of_form (cons_of at e f) = of_two e f (of_form e) (of_form f)
    of_form (one at w e) = ap (λ o. cond (no_equality (word_feature w)) o (Some at)) (of_form e)
    of_form (two at w e f) = ap (λ o. cond (no_equality (word_feature_of_two w)) o (Some at)) (of_two e f (of_form e) (of_form f))
    of_form (argument at e i) = of_form e
    of_form (congruence at R e f) = of_two e f (of_form e) (of_form f)
    of_form (perform at op e) = of_form e
    of_form (call at x es) = call_built (is_among ns x.name) at (all_parts ns es) ∙ of_forms es ∙ sym (call_built (is_among [] x.name) at (all_parts [] es))
    of_form (substitution at e es) = first_same (parts ns e) (all_parts ns es) (parts [] e) (all_parts [] es) (of_form e) (of_forms es)
    of_form (truth_of at b) = refl
    of_form (unit_of at) = refl
    of_form (pair_of at e f) = of_two e f (of_form e) (of_form f)
    of_form (none_of at A) = refl
    of_form (nil_of at A) = refl

    of_forms : (es : Forms) → first (all_parts ns es) ≡ first (all_parts [] es)
    of_forms no_forms = refl
    of_forms (and_form e es) = first_same (parts ns e) (all_parts ns es) (parts [] e) (all_parts [] es) (of_form e) (of_forms es)

    of_cases : (cs : Cases) → first (case_parts ns cs) ≡ first (case_parts [] cs)
    of_cases no_cases = refl
    of_cases (and_case p e cs) = first_same (parts ns e) (case_parts ns cs) (parts [] e) (case_parts [] cs) (of_form e) (of_cases cs)

    of_value : (v : ValueCase) → first (value_parts ns v) ≡ first (value_parts [] v)
    of_value no_value_case = refl
    of_value (value_case x e) = of_form e

    of_handlers : (hs : Handlers) → first (handler_parts ns hs) ≡ first (handler_parts [] hs)
    of_handlers no_handlers = refl
    of_handlers (and_handler o x e hs) = first_same (parts ns e) (handler_parts ns hs) (parts [] e) (handler_parts [] hs) (of_form e) (of_handlers hs)

  -- of a body, wherever it begins
  pub of_body : (at : ℕ) (b : Body) → first (body_parts ns at b) ≡ first (body_parts [] 0 b)
  of_body at type_body = refl
  of_body at (term_body e) = of_form e
  of_body at (types_body e f) = of_two e f (of_form e) (of_form f)
  of_body at (terms_body e f g) = of_three e f g (of_form e) (of_form f) (of_form g)

  -- of binders
  pub of_binders : (bs : List Binder) → first (binder_parts ns bs) ≡ first (binder_parts [] bs)
  of_binders [] = refl
  of_binders (b ∷ bs) = first_same (parts ns b.domain) (binder_parts ns bs) (parts [] b.domain) (binder_parts [] bs) (of_form b.domain) (of_binders bs)

-- of a premise
of_one : (ns : List Name) (p : Premise) → first (binder_parts ns p.binders ++ body_parts ns p.body_at p.body) ≡ first (premise_parts p)
of_one ns p =
    first_same (binder_parts ns p.binders) (body_parts ns p.body_at p.body) (binder_parts [] p.binders) (body_parts [] p.body_at p.body) (of_binders ns p.binders)
    (of_body ns p.body_at p.body ∙ sym (of_body [] p.body_at p.body))

-- of a rule: its premises each by itself, and its conclusion
pub of_rule : (ns : List Name) (ps : List Premise) (at : ℕ) (c : Body) → first (rule_parts ns ps at c) ≡ first (flat_map premise_parts ps ++ body_parts [] 0 c)
of_rule ns [] at c = of_body ns at c
of_rule ns (p ∷ ps) at c =
    first_same (binder_parts ns p.binders ++ body_parts ns p.body_at p.body) (rule_parts (p.name.name ∷ ns) ps at c) (premise_parts p) (flat_map premise_parts ps ++ body_parts [] 0 c)
    (of_one ns p) (of_rule (p.name.name ∷ ns) ps at c)
    ∙ ap first (sym (append_assoc (premise_parts p) (flat_map premise_parts ps) (body_parts [] 0 c)))

-- a rule by its conclusion: the place of the conclusion does not matter
pub of_conclusion : (at : ℕ) (n : Named) (ps : List Premise) (c : Conclusion) → first (command_parts (rule_by at n ps c)) ≡ first (rule_parts [] ps 0 (conclusion_in c))
of_conclusion at n ps (conclusion.Type k) = of_rule [] ps k type_body ∙ sym (of_rule [] ps 0 type_body)
of_conclusion at n ps (conclusion.Term k A) = of_rule [] ps k (term_body (form A)) ∙ sym (of_rule [] ps 0 (term_body (form A)))
of_conclusion at n ps (conclusion.Equation k e f A) = of_rule [] ps k (equation_body e f A) ∙ sym (of_rule [] ps 0 (equation_body e f A))
