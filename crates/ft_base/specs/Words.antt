-- The words that are no names.
use Rattle.std.specs.Prelude.{ℕ, List, [], ◌∷◌, Option, find, codes}
use Rattle.std.specs.Str.{bytes_eq}
use Rattle.ft_base.specs.declared.word.Word.{Word}
use Rattle.ft_base.specs.declared.word.Word.TheVariants as word

-- all words
abbrev pub words : List Word
words =
    word.Rule ∷ word.TypeWord ∷ word.Let ∷ word.In ∷ word.If ∷ word.Then ∷
    word.Else ∷ word.Match ∷ word.With ∷ word.End ∷ word.Handle ∷ word.Val ∷
    word.Perform ∷ word.Operation ∷ word.Computation ∷ word.Extensionality ∷ word.Show ∷ word.By ∷
    word.TrueWord ∷ word.FalseWord ∷ word.SomeWord ∷ word.NoneWord ∷ word.Nil ∷ word.Judgement ∷
    word.Boundary ∷ word.Unit ∷ word.Bool ∷ word.List ∷ word.Option ∷ word.Refl ∷
    word.Sym ∷ word.Trans ∷ word.Convert ∷ word.Left ∷ word.Right ∷ word.Typeof ∷
    word.Domain ∷ word.Natural ∷ word.Normal ∷ word.Boundaryof ∷ word.Equal ∷ word.Widen ∷
    word.Rewrite ∷ word.Fill ∷ word.Argument ∷ word.Congruence ∷ word.Principal ∷ word.Derive ∷
    []

-- the characters of a word
abbrev pub spelling_of : Word → List ℕ
spelling_of word.Rule = codes "rule"
spelling_of word.TypeWord = codes "type"
spelling_of word.Let = codes "let"
spelling_of word.In = codes "in"
spelling_of word.If = codes "if"
spelling_of word.Then = codes "then"
spelling_of word.Else = codes "else"
spelling_of word.Match = codes "match"
spelling_of word.With = codes "with"
spelling_of word.End = codes "end"
spelling_of word.Handle = codes "handle"
spelling_of word.Val = codes "val"
spelling_of word.Perform = codes "perform"
spelling_of word.Operation = codes "operation"
spelling_of word.Computation = codes "computation"
spelling_of word.Extensionality = codes "extensionality"
spelling_of word.Show = codes "show"
spelling_of word.By = codes "by"
spelling_of word.TrueWord = codes "true"
spelling_of word.FalseWord = codes "false"
spelling_of word.SomeWord = codes "some"
spelling_of word.NoneWord = codes "none"
spelling_of word.Nil = codes "nil"
spelling_of word.Judgement = codes "judgement"
spelling_of word.Boundary = codes "boundary"
spelling_of word.Unit = codes "unit"
spelling_of word.Bool = codes "bool"
spelling_of word.List = codes "list"
spelling_of word.Option = codes "option"
spelling_of word.Refl = codes "refl"
spelling_of word.Sym = codes "sym"
spelling_of word.Trans = codes "trans"
spelling_of word.Convert = codes "convert"
spelling_of word.Left = codes "left"
spelling_of word.Right = codes "right"
spelling_of word.Typeof = codes "typeof"
spelling_of word.Domain = codes "domain"
spelling_of word.Natural = codes "natural"
spelling_of word.Normal = codes "normal"
spelling_of word.Boundaryof = codes "boundaryof"
spelling_of word.Equal = codes "equal"
spelling_of word.Widen = codes "widen"
spelling_of word.Rewrite = codes "rewrite"
spelling_of word.Fill = codes "fill"
spelling_of word.Argument = codes "argument"
spelling_of word.Congruence = codes "congruence"
spelling_of word.Principal = codes "principal"
spelling_of word.Derive = codes "derive"

-- the word that the characters spell
abbrev pub word_of : List ℕ → Option Word
word_of characters = find (λ w. bytes_eq (spelling_of w) characters) words
