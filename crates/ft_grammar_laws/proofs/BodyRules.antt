-- The same for the rules of commands that have premises.
use Rattle.std.proofs.Common.{◌≡◌, refl, ℕ, Bool, true, false, ◌&&◌, List, []}
use Rattle.std.proofs.lemmas.Bool.{and_parts}
use Rattle.ft_common.proofs.Booleans.{false_true}
use Rattle.ft_common.proofs.Options.{none_some}
use Rattle.ft_base.specs.declared.word.Word.TheVariants as w
use Rattle.ft_grammar.specs.declared.token.Mark.TheVariants as m
use Rattle.ft_grammar.specs.declared.token.Kind.{Kind}
use Rattle.ft_grammar.specs.declared.token.Kind.TheVariants as kind
use Rattle.ft_grammar.specs.declared.syntax.Ast.{Ast}
use Rattle.ft_grammar.specs.declared.syntax.Ast.TheVariants as ast
use Rattle.ft_grammar.specs.Rules.{expression, is_word, is_mark, is_name, exactly}
use Rattle.ft_grammar.specs.Forms.{plain_type, word_pattern, word_expression, one_form, two_form, begins_one, begins_two, begins_atom, begins_pattern_atom, is_no_end}
use Rattle.ft_grammar.specs.Grammar.{IsPart, atom, call, application, list_expression, any_expression, binder, type_body, term_body, equation_type, equation_body, any_body, premise, type_conclusion, term_conclusion, any_conclusion, rule_command, let_command, operation_command, computation_command, extensionality_command, show_command, any_command, commands}
use Rattle.ft_grammar_laws.proofs.EveryKind.{within, apart}
use Rattle.ft_grammar_laws.proofs.Follow.{begins, follows, anything, after_expression, is_right_paren, is_end, after_command, begins_body, begins_conclusion}
use Rattle.ft_grammar_laws.proofs.Complete.{Fits, shrink}
use Rattle.std.proofs.Common.{◌∙◌, sym, ap, ◌⊎◌, inl, inr, append_assoc, if◌then◌else◌, ◌∷◌, ◌++◌, length, drop, Ok, Some, None, zero, suc}
use Rattle.ft_base.specs.declared.name.Name.{Name}
use Rattle.ft_base.specs.declared.word.Word.{Word}
use Rattle.ft_grammar.specs.declared.token.Token.{Token}
use Rattle.ft_grammar.specs.declared.syntax.Body.{Body}
use Rattle.ft_grammar.specs.Rules.{Is, worded}
use Rattle.ft_grammar.specs.Reading.{level, read, kind_of, read_name, too_nested}
use Rattle.ft_grammar_laws.proofs.Complete.{has_name, ends, ReadsBack, Within}
use Rattle.ft_grammar_laws.proofs.Cases.{ok_rest}
use Rattle.ft_grammar_laws.proofs.FitRules.{fits_binder, fits_type_body, fits_term_body, fits_equation_body, fits_any_conclusion, fits_let_command, fits_operation_command, fits_computation_command, fits_extensionality_command, fits_show_command}

chosen_word : (b : Bool) (u : Unit {0}) → (if b then Some tt else None) ≡ Some u → b ≡ true
chosen_word true u h = refl
chosen_word false u h = absurd (none_some h)

is_the_word : (v : Word) (k : Kind) (u : Unit {0}) → worded (exactly v) k ≡ Some u → is_word v k ≡ true
unfolding is_word exactly
is_the_word v (kind.Word x) u h = chosen_word (is_word v (kind.Word x)) u h
is_the_word v (kind.Name n) u h = absurd (none_some h)
is_the_word v (kind.Number n) u h = absurd (none_some h)
is_the_word v (kind.Mark n) u h = absurd (none_some h)
is_the_word v kind.Bad u h = absurd (none_some h)
is_the_word v kind.End u h = absurd (none_some h)

-- the first two tokens, where the first is a name
two_tokens : (second : Kind → Bool) (b : Bool) (xs rest : List Token) (t u : Token) (zs : List Token) → xs ≡ t ∷ (u ∷ zs) → is_name t.kind ≡ true → second u.kind ≡ b
    → (is_name (kind_of (xs ++ rest)) && second (kind_of (drop 1 (xs ++ rest)))) ≡ b
two_tokens second b xs rest t u zs e n s =
    ap (λ ys. is_name (kind_of (ys ++ rest)) && second (kind_of (drop 1 (ys ++ rest)))) e ∙ ap (λ c. c && second u.kind) n ∙ s

module _ (d : ℕ) where
  abbrev pub Second : (Kind → Bool) → List Token → Type 0
  Second second xs = (t u : Token) × (zs : List Token) × (xs ≡ t ∷ (u ∷ zs)) × (is_name t.kind ≡ true) × (second u.kind ≡ true)

  type_tokens : (a : Body) (xs : List Token) → Is (IsPart d) type_body a xs → Second (is_word w.TypeWord) xs
  unfolding type_body
  type_tokens a xs h =
      let q = h.3 in
      let r = q.5 in (
        q.4.0,
        r.4.0,
        r.2,
        q.3 ∙ ap (λ y. y ++ q.2) q.4.1 ∙ ap (λ z. q.4.0 ∷ z) (r.3 ∙ ap (λ y. y ++ r.2) r.4.1),
        has_name begins follows (IsPart d) q.4.0 q.0 q.4.2,
        is_the_word w.TypeWord r.4.0.kind r.0 r.4.2,
      )

  term_tokens : (a : Body) (xs : List Token) → Is (IsPart d) term_body a xs → Second (is_mark m.Colon) xs
  unfolding term_body
  term_tokens a xs h =
      let q = h.3 in
      let r = q.5 in (
        q.4.0,
        r.4.0,
        r.2,
        q.3 ∙ ap (λ y. y ++ q.2) q.4.1 ∙ ap (λ z. q.4.0 ∷ z) (r.3 ∙ ap (λ y. y ++ r.2) r.4.1),
        has_name begins follows (IsPart d) q.4.0 q.0 q.4.2,
        r.4.2,
      )

-- a token that ends an expression after its name
abbrev pub EndsName : (Kind → Bool) → Type 0
EndsName second = (k : Kind) → second k ≡ true → (begins_atom k ≡ false) × (is_mark m.LeftBrace k ≡ false) × (is_mark m.DoubleColon k ≡ false)

pub a_name : (d : ℕ) (n : Name) (s e : ℕ) (us : List Token) → begins_atom (kind_of us) ≡ false → is_mark m.LeftBrace (kind_of us) ≡ false
    → is_mark m.DoubleColon (kind_of us) ≡ false
    → read (level d) any_expression (record { kind = kind.Name n; start = s; end = e } ∷ us) ≡ Ok (ast.Call s (record { name = n; at = s }) [], us)
unfolding any_expression list_expression application call is_word is_mark is_name read_name
a_name d n s e us no_atom no_brace no_cons =
    let none = ends begins follows (IsPart d) begins_atom (read (level d) atom) (length us) [] us no_atom in
    rw (no_brace, none, no_cons) refl

abbrev pub ExpressionsBack : ℕ → Type 0
ExpressionsBack d = ReadsBack begins follows (IsPart d) (level d expression) (λ a. IsPart d expression a) (follows expression)

-- an expression that begins with a name ends after it, where such a token is next
stuck : (second : Kind → Bool) → EndsName second → (d : ℕ) (t : Token) (us : List Token) (a : Ast) (rest : List Token) → is_name t.kind ≡ true
    → second (kind_of us) ≡ true → level d expression (t ∷ us) ≡ Ok (a, rest) → us ≡ rest
unfolding level is_name
stuck second end zero t us a rest n s h = absurd (clash h)
  where
    clash : too_nested {A = Ast} (t ∷ us) ≡ Ok (a, rest) → ⊥
    clash h = cc
stuck second end (suc d) t us a rest n s h = by_kind t.kind n h
  where
    by_kind : (k : Kind) → is_name k ≡ true → read (level d) any_expression (record { kind = k; start = t.start; end = t.end } ∷ us) ≡ Ok (a, rest) → us ≡ rest
    by_kind (kind.Name m) n h =
        let e = end (kind_of us) s in
        ok_rest (sym (a_name d m t.start t.end us e.0 e.1 e.2) ∙ h)
    by_kind (kind.Number m) n h = absurd (false_true n)
    by_kind (kind.Word m) n h = absurd (false_true n)
    by_kind (kind.Mark m) n h = absurd (false_true n)
    by_kind kind.Bad n h = absurd (false_true n)
    by_kind kind.End n h = absurd (false_true n)

is_or_not : (b : Bool) → (b ≡ true) ⊎ (b ≡ false)
is_or_not true = inl refl
is_or_not false = inr refl

-- no expression before `==` begins with a name and such a token
no_second : (second : Kind → Bool) → EndsName second → ((k : Kind) → second k ≡ true → is_mark m.DoubleEquals k ≡ false) → (d : ℕ) → ExpressionsBack d
    → (a : Ast) (ts rest : List Token) → level d expression ts ≡ Ok (a, rest) → is_mark m.DoubleEquals (kind_of rest) ≡ true
    → (is_name (kind_of ts) && second (kind_of (drop 1 ts))) ≡ false
unfolding is_name
no_second second end other d parts a [] rest h next = refl
no_second second end other d parts a (t ∷ us) rest h next = by_test (is_or_not (is_name t.kind && second (kind_of us)))
  where
    by_test : ((is_name t.kind && second (kind_of us)) ≡ true) ⊎ ((is_name t.kind && second (kind_of us)) ≡ false) → (is_name t.kind && second (kind_of us)) ≡ false
    by_test (inr no_) = no_
    by_test (inl yes_) =
        let c = and_parts (is_name t.kind) (second (kind_of us)) yes_ in
        let same = stuck second end d t us a rest c.0 c.1 h in
        absurd (false_true (sym (other (kind_of us) c.1) ∙ ap (λ ws. is_mark m.DoubleEquals (kind_of ws)) same ∙ next))

double_equals_follows : Within begins follows (is_mark m.DoubleEquals) (follows expression)
unfolding is_mark begins_atom
double_equals_follows = within _ _ (λ n. refl) (λ n. refl) refl refl refl refl

equation_tokens : (second : Kind → Bool) → EndsName second → ((k : Kind) → second k ≡ true → is_mark m.DoubleEquals k ≡ false) → (d : ℕ) → ExpressionsBack d
    → (a : Body) (xs rest : List Token) → Is (IsPart d) equation_body a xs → (is_name (kind_of (xs ++ rest)) && second (kind_of (drop 1 (xs ++ rest)))) ≡ false
unfolding equation_body
equation_tokens second end other d parts a xs rest h =
    let q = h.3 in
    let r = q.5 in
    let apart_is : xs ++ rest ≡ q.1 ++ (q.2 ++ rest) = ap (λ ys. ys ++ rest) q.3 ∙ append_assoc q.1 q.2 rest in
    let after_is : q.2 ++ rest ≡ r.4.0 ∷ (r.2 ++ rest) = ap (λ ys. ys ++ rest) (r.3 ∙ ap (λ y. y ++ r.2) r.4.1) in
    let next : is_mark m.DoubleEquals (kind_of (q.2 ++ rest)) ≡ true = ap (λ ys. is_mark m.DoubleEquals (kind_of ys)) after_is ∙ r.4.2 in
    let read_is = parts q.0 q.1 (q.2 ++ rest) q.4 (double_equals_follows (kind_of (q.2 ++ rest)) next) in
    ap (λ ys. is_name (kind_of ys) && second (kind_of (drop 1 ys))) apart_is
    ∙ no_second second end other d parts q.0 (q.1 ++ (q.2 ++ rest)) (q.2 ++ rest) read_is next

ends_type : EndsName (is_word w.TypeWord)
unfolding is_word is_mark begins_atom
ends_type k h = (apart (is_word w.TypeWord) begins_atom (λ n. refl) (λ n. refl) refl refl refl refl k h, apart (is_word w.TypeWord) (is_mark m.LeftBrace) (λ n. refl) (λ n. refl) refl refl refl refl k h, apart (is_word w.TypeWord) (is_mark m.DoubleColon) (λ n. refl) (λ n. refl) refl refl refl refl k h)

ends_colon : EndsName (is_mark m.Colon)
unfolding is_word is_mark begins_atom
ends_colon k h = (apart (is_mark m.Colon) begins_atom (λ n. refl) (λ n. refl) refl refl refl refl k h, apart (is_mark m.Colon) (is_mark m.LeftBrace) (λ n. refl) (λ n. refl) refl refl refl refl k h, apart (is_mark m.Colon) (is_mark m.DoubleColon) (λ n. refl) (λ n. refl) refl refl refl refl k h)

type_is_other : (k : Kind) → is_word w.TypeWord k ≡ true → is_mark m.DoubleEquals k ≡ false
unfolding is_word is_mark
type_is_other = apart _ _ (λ n. refl) (λ n. refl) refl refl refl refl

colon_is_other : (k : Kind) → is_mark m.Colon k ≡ true → is_mark m.DoubleEquals k ≡ false
unfolding is_word is_mark
colon_is_other = apart _ _ (λ n. refl) (λ n. refl) refl refl refl refl

colon_no_type : (k : Kind) → is_mark m.Colon k ≡ true → is_word w.TypeWord k ≡ false
unfolding is_word is_mark
colon_no_type = apart _ _ (λ n. refl) (λ n. refl) refl refl refl refl

paren_after_expression : Within begins follows is_right_paren after_expression
unfolding is_mark begins_atom
paren_after_expression = within _ _ (λ n. refl) (λ n. refl) refl refl refl refl

pub fits_any_body : (d : ℕ) → ExpressionsBack d → Fits begins follows (IsPart d) any_body is_right_paren
unfolding any_body
fits_any_body d parts = (
  shrink begins follows (IsPart d) type_body is_right_paren anything (λ k h. refl) (fits_type_body d),
  (
    shrink begins follows (IsPart d) term_body is_right_paren after_expression paren_after_expression (fits_term_body d),
    shrink begins follows (IsPart d) equation_body is_right_paren anything (λ k h. refl) (fits_equation_body d),
    (λ a xs rest h next. let g = term_tokens d a xs h in two_tokens (is_mark m.Colon) true xs rest g.0 g.1 g.2 g.3 g.4 g.5),
    (λ a xs rest h next. equation_tokens (is_mark m.Colon) ends_colon colon_is_other d parts a xs rest h),
  ),
  (λ a xs rest h next. let g = type_tokens d a xs h in two_tokens (is_word w.TypeWord) true xs rest g.0 g.1 g.2 g.3 g.4 g.5),
  λ a xs rest h next. not_type a xs rest h,
)
  where
    not_type : (a : Body) (xs rest : List Token) → Is (IsPart d) term_body a xs ⊎ Is (IsPart d) equation_body a xs
        → (is_name (kind_of (xs ++ rest)) && is_word w.TypeWord (kind_of (drop 1 (xs ++ rest)))) ≡ false
    not_type a xs rest (inl h) =
        let g = term_tokens d a xs h in
        two_tokens (is_word w.TypeWord) false xs rest g.0 g.1 g.2 g.3 g.4 (colon_no_type g.1.kind g.5)
    not_type a xs rest (inr h) = equation_tokens (is_word w.TypeWord) ends_type type_is_other d parts a xs rest h

pub fits_premise : (d : ℕ) → ExpressionsBack d → Fits begins follows (IsPart d) premise anything
unfolding any_body binder equation_body equation_type premise term_body type_body is_word is_mark is_name exactly plain_type word_pattern word_expression one_form two_form begins_one begins_two begins_atom begins_pattern_atom is_no_end
fits_premise d parts = (λ at. (λ b0. (anything, tt, (within _ _ (λ n. refl) (λ n. refl) refl refl refl refl), (λ b1. (begins_body, (anything, (fits_binder d), (within _ _ (λ n. refl) (λ n. refl) refl refl refl refl), (within _ _ (λ n. refl) (λ n. refl) refl refl refl refl), (apart _ _ (λ n. refl) (λ n. refl) refl refl refl refl), refl), (within _ _ (λ n. refl) (λ n. refl) refl refl refl refl), (λ b2. (is_right_paren, (fits_any_body d parts), (within _ _ (λ n. refl) (λ n. refl) refl refl refl refl), (λ b3. (anything, tt, (within _ _ (λ n. refl) (λ n. refl) refl refl refl refl), tt)))))))))

pub fits_rule_command : (d : ℕ) → ExpressionsBack d → Fits begins follows (IsPart d) rule_command after_command
unfolding any_body any_conclusion binder equation_body equation_type premise rule_command term_body term_conclusion type_body type_conclusion is_word is_mark is_name exactly plain_type word_pattern word_expression one_form two_form begins_one begins_two begins_atom begins_pattern_atom is_no_end
fits_rule_command d parts = (λ at. (λ b0. (anything, tt, (within _ _ (λ n. refl) (λ n. refl) refl refl refl refl), (λ b1. (anything, tt, (within _ _ (λ n. refl) (λ n. refl) refl refl refl refl), (λ b2. (begins_conclusion, (anything, (fits_premise d parts), (within _ _ (λ n. refl) (λ n. refl) refl refl refl refl), (within _ _ (λ n. refl) (λ n. refl) refl refl refl refl), (apart _ _ (λ n. refl) (λ n. refl) refl refl refl refl), refl), (within _ _ (λ n. refl) (λ n. refl) refl refl refl refl), (λ b3. (after_command, (fits_any_conclusion d), (within _ _ (λ n. refl) (λ n. refl) refl refl refl refl), tt)))))))))

pub fits_any_command : (d : ℕ) → ExpressionsBack d → Fits begins follows (IsPart d) any_command after_command
unfolding any_body any_command any_conclusion binder computation_command equation_body equation_type extensionality_command let_command operation_command premise rule_command show_command term_body term_conclusion type_body type_conclusion is_word is_mark is_name exactly plain_type word_pattern word_expression one_form two_form begins_one begins_two begins_atom begins_pattern_atom is_no_end
fits_any_command d parts = ((fits_rule_command d parts), ((fits_let_command d), ((fits_operation_command d), ((shrink begins follows (IsPart d) computation_command after_command anything (within _ _ (λ n. refl) (λ n. refl) refl refl refl refl) (fits_computation_command d)), ((shrink begins follows (IsPart d) extensionality_command after_command anything (within _ _ (λ n. refl) (λ n. refl) refl refl refl refl) (fits_extensionality_command d)), (fits_show_command d), (within _ _ (λ n. refl) (λ n. refl) refl refl refl refl), (apart _ _ (λ n. refl) (λ n. refl) refl refl refl refl)), (within _ _ (λ n. refl) (λ n. refl) refl refl refl refl), (apart _ _ (λ n. refl) (λ n. refl) refl refl refl refl)), (within _ _ (λ n. refl) (λ n. refl) refl refl refl refl), (apart _ _ (λ n. refl) (λ n. refl) refl refl refl refl)), (within _ _ (λ n. refl) (λ n. refl) refl refl refl refl), (apart _ _ (λ n. refl) (λ n. refl) refl refl refl refl)), (within _ _ (λ n. refl) (λ n. refl) refl refl refl refl), (apart _ _ (λ n. refl) (λ n. refl) refl refl refl refl))

pub fits_commands : (d : ℕ) → ExpressionsBack d → Fits begins follows (IsPart d) commands is_end
unfolding any_body any_command any_conclusion binder commands computation_command equation_body equation_type extensionality_command let_command operation_command premise rule_command show_command term_body term_conclusion type_body type_conclusion is_word is_mark is_name exactly plain_type word_pattern word_expression one_form two_form begins_one begins_two begins_atom begins_pattern_atom is_no_end
fits_commands d parts = (after_command, (fits_any_command d parts), (within _ _ (λ n. refl) (λ n. refl) refl refl refl refl), (within _ _ (λ n. refl) (λ n. refl) refl refl refl refl), (apart _ _ (λ n. refl) (λ n. refl) refl refl refl refl), refl)
