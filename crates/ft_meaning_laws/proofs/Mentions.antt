-- The text of a sequent mentions the variables of its set.
use Rattle.std.proofs.Common.{◌≡◌, ◌∙◌, sym, ap, refl, ℕ, Some, List, [], ◌∷◌, ◌++◌, map, codes, inl, inr, append_assoc, append-nil}
use Rattle.ft_theory.specs.Rules.{look_up}
use Rattle.ft_items.specs.Sets.{Atom, met, var, Has}
use Rattle.ft_items.specs.Store.{Assertion, Annotation, Declarations}
use Rattle.ft_meaning.specs.Texts.{Text, variables, variable_text, of_type_text, variable_member, member_text, joined, context_text, statement_text, sequent_text}
use Rattle.ft_meaning_laws.specs.Texts.{Mentions, VariablesMentioned}

-- what a part mentions is mentioned by the whole
in_front : (a b x : Text) → Mentions a x → Mentions (a ++ b) x
in_front a b x h = (h.0, h.1 ++ b, ap (λ z. z ++ b) h.2 ∙ append_assoc (h.0 ++ x) h.1 b)

behind : (a b x : Text) → Mentions b x → Mentions (a ++ b) x
behind a b x h = (a ++ h.0, h.1, ap (λ z. a ++ z) h.2 ∙ sym (append_assoc a (h.0 ++ x) h.1) ∙ ap (λ z. z ++ h.1) (sym (append_assoc a h.0 x)))

whole : (t x : Text) → x ≡ t → Mentions t x
whole t x e = ([], [], sym e ∙ sym (append-nil x))

-- what is mentioned by what is mentioned
through : (t x y : Text) → Mentions t x → Mentions x y → Mentions t y
through t x y h g = let k : Mentions (h.0 ++ x ++ h.1) y = in_front (h.0 ++ x) h.1 y (behind h.0 x y g) in (k.0, k.1, h.2 ∙ k.2)

joined_member : (f : Atom → Text) (S : List Atom) (a : Atom) → Has a S → Mentions (joined (map f S)) (f a)
joined_member f [] a h = absurd h
joined_member f (b ∷ []) a (inl e) = whole (f b) (f a) (ap f e)
joined_member f (b ∷ []) a (inr h) = absurd h
joined_member f (b ∷ c ∷ S) a (inl e) =
    in_front (f b ++ codes ", ") (joined (map f (c ∷ S))) (f a) (in_front (f b) (codes ", ") (f a) (whole (f b) (f a) (ap f e)))
joined_member f (b ∷ c ∷ S) a (inr h) = behind (f b ++ codes ", ") (joined (map f (c ∷ S))) (f a) (joined_member f (c ∷ S) a h)

context_member : (W : Declarations) (vs : List ℕ) (S : List Atom) (a : Atom) → Has a S → Mentions (context_text W vs S) (member_text W vs a)
context_member W vs [] a h = absurd h
context_member W vs (b ∷ S) a h = in_front (joined (map (member_text W vs) (b ∷ S))) (codes " ") (member_text W vs a) (joined_member (member_text W vs) (b ∷ S) a h)

member_names : (W : Declarations) (vs : List ℕ) (v : ℕ) (d : Annotation) → look_up W.variables v ≡ Some d → Mentions (member_text W vs (var v)) (variable_text W vs v)
member_names W vs v d e =
    let x : Text = variable_text W vs v in
    let k : Mentions (x ++ of_type_text W vs 0 d.annotation) x = in_front x (of_type_text W vs 0 d.annotation) x (whole x x refl) in
    (k.0, k.1, ap (variable_member W vs v) e ∙ k.2)

pub variables_mentioned : VariablesMentioned
variables_mentioned W p v d h e =
    let vs : List ℕ = variables p.set in
    let x : Text = variable_text W vs v in
    let k : Mentions (context_text W vs p.set) x = through (context_text W vs p.set) (member_text W vs (var v)) x (context_member W vs p.set (var v) h) (member_names W vs v d e) in
    in_front (context_text W vs p.set ++ codes "|- ") (statement_text W vs 0 p.statement) x (in_front (context_text W vs p.set) (codes "|- ") x k)
