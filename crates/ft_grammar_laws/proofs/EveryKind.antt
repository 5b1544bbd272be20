-- What holds of every kind of token, by one test.
use Rattle.std.proofs.Common.{◌≡◌, refl, ap, ◌∙◌, ℕ, Bool, true, false, ◌&&◌, not, List, [], ◌∷◌, ◌⊎◌, inl, inr}
use Rattle.std.proofs.lemmas.Bool.{and_parts, not-true}
use Rattle.ft_common.proofs.Booleans.{false_true}
use Rattle.ft_base.specs.declared.name.Name.{Name}
use Rattle.ft_base.specs.declared.word.Word.{Word}
use Rattle.ft_base.specs.declared.word.Word.TheVariants as w
use Rattle.ft_grammar.specs.declared.token.Mark.{Mark}
use Rattle.ft_grammar.specs.declared.token.Mark.TheVariants as m
use Rattle.ft_grammar.specs.declared.token.Kind.{Kind}
use Rattle.ft_grammar.specs.declared.token.Kind.TheVariants as kind

abbrev pub all_words : List Word
all_words = w.Rule ∷ w.TypeWord ∷ w.Let ∷ w.In ∷ w.If ∷ w.Then ∷ w.Else ∷ w.Match ∷ w.With ∷ w.End ∷ w.Handle ∷ w.Val ∷ w.Perform ∷ w.Operation ∷ w.Computation ∷ w.Extensionality ∷ w.Show ∷ w.By ∷ w.TrueWord ∷ w.FalseWord ∷ w.SomeWord ∷ w.NoneWord ∷ w.Nil ∷ w.Judgement ∷ w.Boundary ∷ w.Unit ∷ w.Bool ∷ w.List ∷ w.Option ∷ w.Refl ∷ w.Sym ∷ w.Trans ∷ w.Convert ∷ w.Left ∷ w.Right ∷ w.Typeof ∷ w.Domain ∷ w.Natural ∷ w.Normal ∷ w.Boundaryof ∷ w.Equal ∷ w.Widen ∷ w.Rewrite ∷ w.Fill ∷ w.Argument ∷ w.Congruence ∷ w.Principal ∷ w.Derive ∷ []

abbrev pub all_marks : List Mark
all_marks = m.LeftParen ∷ m.RightParen ∷ m.LeftBrace ∷ m.RightBrace ∷ m.Comma ∷ m.Colon ∷ m.DoubleColon ∷ m.Equals ∷ m.DoubleEquals ∷ m.Arrow ∷ m.Bar ∷ m.Star ∷ m.At ∷ m.Underscore ∷ []

abbrev pub IsIn : {A : Type 0} → A → List A → Type 0
IsIn a [] = ⊥
IsIn a (b ∷ bs) = (a ≡ b) ⊎ IsIn a bs

word_is_in : (v : Word) → IsIn v all_words
word_is_in w.Rule = inl refl
word_is_in w.TypeWord = inr (inl refl)
word_is_in w.Let = inr (inr (inl refl))
word_is_in w.In = inr (inr (inr (inl refl)))
word_is_in w.If = inr (inr (inr (inr (inl refl))))
word_is_in w.Then = inr (inr (inr (inr (inr (inl refl)))))
word_is_in w.Else = inr (inr (inr (inr (inr (inr (inl refl))))))
word_is_in w.Match = inr (inr (inr (inr (inr (inr (inr (inl refl)))))))
word_is_in w.With = inr (inr (inr (inr (inr (inr (inr (inr (inl refl))))))))
word_is_in w.End = inr (inr (inr (inr (inr (inr (inr (inr (inr (inl refl)))))))))
word_is_in w.Handle = inr (inr (inr (inr (inr (inr (inr (inr (inr (inr (inl refl))))))))))
word_is_in w.Val = inr (inr (inr (inr (inr (inr (inr (inr (inr (inr (inr (inl refl)))))))))))
word_is_in w.Perform = inr (inr (inr (inr (inr (inr (inr (inr (inr (inr (inr (inr (inl refl))))))))))))
word_is_in w.Operation = inr (inr (inr (inr (inr (inr (inr (inr (inr (inr (inr (inr (inr (inl refl)))))))))))))
word_is_in w.Computation = inr (inr (inr (inr (inr (inr (inr (inr (inr (inr (inr (inr (inr (inr (inl refl))))))))))))))
word_is_in w.Extensionality = inr (inr (inr (inr (inr (inr (inr (inr (inr (inr (inr (inr (inr (inr (inr (inl refl)))))))))))))))
word_is_in w.Show = inr (inr (inr (inr (inr (inr (inr (inr (inr (inr (inr (inr (inr (inr (inr (inr (inl refl))))))))))))))))
word_is_in w.By = inr (inr (inr (inr (inr (inr (inr (inr (inr (inr (inr (inr (inr (inr (inr (inr (inr (inl refl)))))))))))))))))
word_is_in w.TrueWord = inr (inr (inr (inr (inr (inr (inr (inr (inr (inr (inr (inr (inr (inr (inr (inr (inr (inr (inl refl))))))))))))))))))
word_is_in w.FalseWord = inr (inr (inr (inr (inr (inr (inr (inr (inr (inr (inr (inr (inr (inr (inr (inr (inr (inr (inr (inl refl)))))))))))))))))))
word_is_in w.SomeWord = inr (inr (inr (inr (inr (inr (inr (inr (inr (inr (inr (inr (inr (inr (inr (inr (inr (inr (inr (inr (inl refl))))))))))))))))))))
word_is_in w.NoneWord = inr (inr (inr (inr (inr (inr (inr (inr (inr (inr (inr (inr (inr (inr (inr (inr (inr (inr (inr (inr (inr (inl refl)))))))))))))))))))))
word_is_in w.Nil = inr (inr (inr (inr (inr (inr (inr (inr (inr (inr (inr (inr (inr (inr (inr (inr (inr (inr (inr (inr (inr (inr (inl refl))))))))))))))))))))))
word_is_in w.Judgement = inr (inr (inr (inr (inr (inr (inr (inr (inr (inr (inr (inr (inr (inr (inr (inr (inr (inr (inr (inr (inr (inr (inr (inl refl)))))))))))))))))))))))
word_is_in w.Boundary = inr (inr (inr (inr (inr (inr (inr (inr (inr (inr (inr (inr (inr (inr (inr (inr (inr (inr (inr (inr (inr (inr (inr (inr (inl refl))))))))))))))))))))))))
word_is_in w.Unit = inr (inr (inr (inr (inr (inr (inr (inr (inr (inr (inr (inr (inr (inr (inr (inr (inr (inr (inr (inr (inr (inr (inr (inr (inr (inl refl)))))))))))))))))))))))))
word_is_in w.Bool = inr (inr (inr (inr (inr (inr (inr (inr (inr (inr (inr (inr (inr (inr (inr (inr (inr (inr (inr (inr (inr (inr (inr (inr (inr (inr (inl refl))))))))))))))))))))))))))
word_is_in w.List = inr (inr (inr (inr (inr (inr (inr (inr (inr (inr (inr (inr (inr (inr (inr (inr (inr (inr (inr (inr (inr (inr (inr (inr (inr (inr (inr (inl refl)))))))))))))))))))))))))))
word_is_in w.Option = inr (inr (inr (inr (inr (inr (inr (inr (inr (inr (inr (inr (inr (inr (inr (inr (inr (inr (inr (inr (inr (inr (inr (inr (inr (inr (inr (inr (inl refl))))))))))))))))))))))))))))
word_is_in w.Refl = inr (inr (inr (inr (inr (inr (inr (inr (inr (inr (inr (inr (inr (inr (inr (inr (inr (inr (inr (inr (inr (inr (inr (inr (inr (inr (inr (inr (inr (inl refl)))))))))))))))))))))))))))))
word_is_in w.Sym = inr (inr (inr (inr (inr (inr (inr (inr (inr (inr (inr (inr (inr (inr (inr (inr (inr (inr (inr (inr (inr (inr (inr (inr (inr (inr (inr (inr (inr (inr (inl refl))))))))))))))))))))))))))))))
word_is_in w.Trans = inr (inr (inr (inr (inr (inr (inr (inr (inr (inr (inr (inr (inr (inr (inr (inr (inr (inr (inr (inr (inr (inr (inr (inr (inr (inr (inr (inr (inr (inr (inr (inl refl)))))))))))))))))))))))))))))))
word_is_in w.Convert = inr (inr (inr (inr (inr (inr (inr (inr (inr (inr (inr (inr (inr (inr (inr (inr (inr (inr (inr (inr (inr (inr (inr (inr (inr (inr (inr (inr (inr (inr (inr (inr (inl refl))))))))))))))))))))))))))))))))
word_is_in w.Left = inr (inr (inr (inr (inr (inr (inr (inr (inr (inr (inr (inr (inr (inr (inr (inr (inr (inr (inr (inr (inr (inr (inr (inr (inr (inr (inr (inr (inr (inr (inr (inr (inr (inl refl)))))))))))))))))))))))))))))))))
word_is_in w.Right = inr (inr (inr (inr (inr (inr (inr (inr (inr (inr (inr (inr (inr (inr (inr (inr (inr (inr (inr (inr (inr (inr (inr (inr (inr (inr (inr (inr (inr (inr (inr (inr (inr (inr (inl refl))))))))))))))))))))))))))))))))))
word_is_in w.Typeof = inr (inr (inr (inr (inr (inr (inr (inr (inr (inr (inr (inr (inr (inr (inr (inr (inr (inr (inr (inr (inr (inr (inr (inr (inr (inr (inr (inr (inr (inr (inr (inr (inr (inr (inr (inl refl)))))))))))))))))))))))))))))))))))
word_is_in w.Domain = inr (inr (inr (inr (inr (inr (inr (inr (inr (inr (inr (inr (inr (inr (inr (inr (inr (inr (inr (inr (inr (inr (inr (inr (inr (inr (inr (inr (inr (inr (inr (inr (inr (inr (inr (inr (inl refl))))))))))))))))))))))))))))))))))))
word_is_in w.Natural = inr (inr (inr (inr (inr (inr (inr (inr (inr (inr (inr (inr (inr (inr (inr (inr (inr (inr (inr (inr (inr (inr (inr (inr (inr (inr (inr (inr (inr (inr (inr (inr (inr (inr (inr (inr (inr (inl refl)))))))))))))))))))))))))))))))))))))
word_is_in w.Normal = inr (inr (inr (inr (inr (inr (inr (inr (inr (inr (inr (inr (inr (inr (inr (inr (inr (inr (inr (inr (inr (inr (inr (inr (inr (inr (inr (inr (inr (inr (inr (inr (inr (inr (inr (inr (inr (inr (inl refl))))))))))))))))))))))))))))))))))))))
word_is_in w.Boundaryof = inr (inr (inr (inr (inr (inr (inr (inr (inr (inr (inr (inr (inr (inr (inr (inr (inr (inr (inr (inr (inr (inr (inr (inr (inr (inr (inr (inr (inr (inr (inr (inr (inr (inr (inr (inr (inr (inr (inr (inl refl)))))))))))))))))))))))))))))))))))))))
word_is_in w.Equal = inr (inr (inr (inr (inr (inr (inr (inr (inr (inr (inr (inr (inr (inr (inr (inr (inr (inr (inr (inr (inr (inr (inr (inr (inr (inr (inr (inr (inr (inr (inr (inr (inr (inr (inr (inr (inr (inr (inr (inr (inl refl))))))))))))))))))))))))))))))))))))))))
word_is_in w.Widen = inr (inr (inr (inr (inr (inr (inr (inr (inr (inr (inr (inr (inr (inr (inr (inr (inr (inr (inr (inr (inr (inr (inr (inr (inr (inr (inr (inr (inr (inr (inr (inr (inr (inr (inr (inr (inr (inr (inr (inr (inr (inl refl)))))))))))))))))))))))))))))))))))))))))
word_is_in w.Rewrite = inr (inr (inr (inr (inr (inr (inr (inr (inr (inr (inr (inr (inr (inr (inr (inr (inr (inr (inr (inr (inr (inr (inr (inr (inr (inr (inr (inr (inr (inr (inr (inr (inr (inr (inr (inr (inr (inr (inr (inr (inr (inr (inl refl))))))))))))))))))))))))))))))))))))))))))
word_is_in w.Fill = inr (inr (inr (inr (inr (inr (inr (inr (inr (inr (inr (inr (inr (inr (inr (inr (inr (inr (inr (inr (inr (inr (inr (inr (inr (inr (inr (inr (inr (inr (inr (inr (inr (inr (inr (inr (inr (inr (inr (inr (inr (inr (inr (inl refl)))))))))))))))))))))))))))))))))))))))))))
word_is_in w.Argument = inr (inr (inr (inr (inr (inr (inr (inr (inr (inr (inr (inr (inr (inr (inr (inr (inr (inr (inr (inr (inr (inr (inr (inr (inr (inr (inr (inr (inr (inr (inr (inr (inr (inr (inr (inr (inr (inr (inr (inr (inr (inr (inr (inr (inl refl))))))))))))))))))))))))))))))))))))))))))))
word_is_in w.Congruence = inr (inr (inr (inr (inr (inr (inr (inr (inr (inr (inr (inr (inr (inr (inr (inr (inr (inr (inr (inr (inr (inr (inr (inr (inr (inr (inr (inr (inr (inr (inr (inr (inr (inr (inr (inr (inr (inr (inr (inr (inr (inr (inr (inr (inr (inl refl)))))))))))))))))))))))))))))))))))))))))))))
word_is_in w.Principal = inr (inr (inr (inr (inr (inr (inr (inr (inr (inr (inr (inr (inr (inr (inr (inr (inr (inr (inr (inr (inr (inr (inr (inr (inr (inr (inr (inr (inr (inr (inr (inr (inr (inr (inr (inr (inr (inr (inr (inr (inr (inr (inr (inr (inr (inr (inl refl))))))))))))))))))))))))))))))))))))))))))))))
word_is_in w.Derive = inr (inr (inr (inr (inr (inr (inr (inr (inr (inr (inr (inr (inr (inr (inr (inr (inr (inr (inr (inr (inr (inr (inr (inr (inr (inr (inr (inr (inr (inr (inr (inr (inr (inr (inr (inr (inr (inr (inr (inr (inr (inr (inr (inr (inr (inr (inr (inl refl)))))))))))))))))))))))))))))))))))))))))))))))

mark_is_in : (v : Mark) → IsIn v all_marks
mark_is_in m.LeftParen = inl refl
mark_is_in m.RightParen = inr (inl refl)
mark_is_in m.LeftBrace = inr (inr (inl refl))
mark_is_in m.RightBrace = inr (inr (inr (inl refl)))
mark_is_in m.Comma = inr (inr (inr (inr (inl refl))))
mark_is_in m.Colon = inr (inr (inr (inr (inr (inl refl)))))
mark_is_in m.DoubleColon = inr (inr (inr (inr (inr (inr (inl refl))))))
mark_is_in m.Equals = inr (inr (inr (inr (inr (inr (inr (inl refl)))))))
mark_is_in m.DoubleEquals = inr (inr (inr (inr (inr (inr (inr (inr (inl refl))))))))
mark_is_in m.Arrow = inr (inr (inr (inr (inr (inr (inr (inr (inr (inl refl)))))))))
mark_is_in m.Bar = inr (inr (inr (inr (inr (inr (inr (inr (inr (inr (inl refl))))))))))
mark_is_in m.Star = inr (inr (inr (inr (inr (inr (inr (inr (inr (inr (inr (inl refl)))))))))))
mark_is_in m.At = inr (inr (inr (inr (inr (inr (inr (inr (inr (inr (inr (inr (inl refl))))))))))))
mark_is_in m.Underscore = inr (inr (inr (inr (inr (inr (inr (inr (inr (inr (inr (inr (inr (inl refl)))))))))))))

abbrev pub each : {A : Type 0} → (A → Bool) → List A → Bool
each P [] = true
each P (a ∷ as_rest) = P a && each P as_rest

of_each : {A : Type 0} (P : A → Bool) (bs : List A) (a : A) → each P bs ≡ true → IsIn a bs → P a ≡ true
of_each P [] a h i = absurd i
of_each P (b ∷ bs) a h (inl e) = ap P e ∙ (and_parts (P b) (each P bs) h).0
of_each P (b ∷ bs) a h (inr i) = of_each P bs a (and_parts (P b) (each P bs) h).1 i

abbrev pub implies : Bool → Bool → Bool
implies true b = b
implies false b = true

implied : (a b : Bool) → implies a b ≡ true → a ≡ true → b ≡ true
implied true b h e = h
implied false b h e = false_true e

pub every_kind : (P : Kind → Bool) → ((n : Name) → P (kind.Name n) ≡ true) → ((n : ℕ) → P (kind.Number n) ≡ true)
    → each (λ v. P (kind.Word v)) all_words ≡ true → each (λ v. P (kind.Mark v)) all_marks ≡ true → P kind.Bad ≡ true → P kind.End ≡ true
    → (k : Kind) → P k ≡ true
every_kind P names numbers words marks bad end (kind.Name n) = names n
every_kind P names numbers words marks bad end (kind.Number n) = numbers n
every_kind P names numbers words marks bad end (kind.Word v) = of_each (λ v. P (kind.Word v)) all_words v words (word_is_in v)
every_kind P names numbers words marks bad end (kind.Mark v) = of_each (λ v. P (kind.Mark v)) all_marks v marks (mark_is_in v)
every_kind P names numbers words marks bad end kind.Bad = bad
every_kind P names numbers words marks bad end kind.End = end

pub within : (F G : Kind → Bool) → ((n : Name) → implies (F (kind.Name n)) (G (kind.Name n)) ≡ true) → ((n : ℕ) → implies (F (kind.Number n)) (G (kind.Number n)) ≡ true)
    → each (λ v. implies (F (kind.Word v)) (G (kind.Word v))) all_words ≡ true → each (λ v. implies (F (kind.Mark v)) (G (kind.Mark v))) all_marks ≡ true
    → implies (F kind.Bad) (G kind.Bad) ≡ true → implies (F kind.End) (G kind.End) ≡ true
    → (k : Kind) → F k ≡ true → G k ≡ true
within F G names numbers words marks bad end k h = implied (F k) (G k) (every_kind (λ k. implies (F k) (G k)) names numbers words marks bad end k) h

pub apart : (F G : Kind → Bool) → ((n : Name) → implies (F (kind.Name n)) (not (G (kind.Name n))) ≡ true) → ((n : ℕ) → implies (F (kind.Number n)) (not (G (kind.Number n))) ≡ true)
    → each (λ v. implies (F (kind.Word v)) (not (G (kind.Word v)))) all_words ≡ true → each (λ v. implies (F (kind.Mark v)) (not (G (kind.Mark v)))) all_marks ≡ true
    → implies (F kind.Bad) (not (G kind.Bad)) ≡ true → implies (F kind.End) (not (G kind.End)) ≡ true
    → (k : Kind) → F k ≡ true → G k ≡ false
apart F G names numbers words marks bad end k h =
    not-true (G k) (implied (F k) (not (G k)) (every_kind (λ k. implies (F k) (not (G k))) names numbers words marks bad end k) h)
