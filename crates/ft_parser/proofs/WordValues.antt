-- The value of a word, beside the word.
use Rattle.std.proofs.Common.{◌≡◌, sym, ap, refl, Option, Some, None}
use Rattle.std.proofs.lemmas.Option.{same_Some}
use Rattle.ft_base.specs.declared.word.Word.{Word}
use Rattle.ft_grammar.specs.declared.token.Kind.{Kind}
use Rattle.ft_grammar.specs.declared.token.Kind.TheVariants as kind
use Rattle.ft_grammar.specs.Rules.{worded}

-- the value of the word that is there
pub word_there : {A : Type 0} (value : Word → Option A) (k : Kind) (w : Word) → Some w ≡ worded (λ v. Some v) k → worded value k ≡ value w
word_there value (kind.Word v) w h = ap value (sym (same_Some w v h))
word_there value (kind.Name n) w h = cc
word_there value (kind.Number n) w h = cc
word_there value (kind.Mark m) w h = cc
word_there value kind.Bad w h = cc
word_there value kind.End w h = cc

-- no word is there
pub no_word : {A : Type 0} (value : Word → Option A) (k : Kind) → None ≡ worded (λ v. Some v) k → worded value k ≡ None
no_word value (kind.Word v) h = cc
no_word value (kind.Name n) h = refl
no_word value (kind.Number n) h = refl
no_word value (kind.Mark m) h = refl
no_word value kind.Bad h = refl
no_word value kind.End h = refl
