-- The words of steps.
use Rattle.std.specs.Prelude.{ℕ, List, [], ◌∷◌, Option, find, codes}
use Rattle.std.specs.Str.{bytes_eq}
use Rattle.ft_lines.specs.declared.words.Word.{Word}
use Rattle.ft_lines.specs.declared.words.Word.TheVariants as word

-- all words of version 1
abbrev pub words : List Word
words =
    word.Var ∷ word.Generic ∷ word.Meta ∷ word.Metacong ∷ word.Abs ∷ word.Subst ∷
    word.Substeq ∷ word.Refl ∷ word.Sym ∷ word.Trans ∷ word.Conv ∷ word.Conveq ∷
    word.Left ∷ word.Right ∷ word.Typeof ∷ word.Domain ∷ word.Boundary ∷ word.Widen ∷
    word.Btype ∷ word.Bterm ∷ word.Beqty ∷ word.Beqtm ∷ word.Rule ∷ word.Rulewith ∷
    word.Inst ∷ word.Cong ∷ word.Convprem ∷ word.Convback ∷ word.Arg ∷ word.Natural ∷
    []

-- the letters of a word
abbrev pub spelling_of : Word → List ℕ
spelling_of word.Var = codes "var"
spelling_of word.Generic = codes "generic"
spelling_of word.Meta = codes "meta"
spelling_of word.Metacong = codes "metacong"
spelling_of word.Abs = codes "abs"
spelling_of word.Subst = codes "subst"
spelling_of word.Substeq = codes "substeq"
spelling_of word.Refl = codes "refl"
spelling_of word.Sym = codes "sym"
spelling_of word.Trans = codes "trans"
spelling_of word.Conv = codes "conv"
spelling_of word.Conveq = codes "conveq"
spelling_of word.Left = codes "left"
spelling_of word.Right = codes "right"
spelling_of word.Typeof = codes "typeof"
spelling_of word.Domain = codes "domain"
spelling_of word.Boundary = codes "boundary"
spelling_of word.Widen = codes "widen"
spelling_of word.Btype = codes "btype"
spelling_of word.Bterm = codes "bterm"
spelling_of word.Beqty = codes "beqty"
spelling_of word.Beqtm = codes "beqtm"
spelling_of word.Rule = codes "rule"
spelling_of word.Rulewith = codes "rulewith"
spelling_of word.Inst = codes "inst"
spelling_of word.Cong = codes "cong"
spelling_of word.Convprem = codes "convprem"
spelling_of word.Convback = codes "convback"
spelling_of word.Arg = codes "arg"
spelling_of word.Natural = codes "natural"

-- the word that the letters spell
abbrev pub word_of : List ℕ → Option Word
word_of letters = find (λ w. bytes_eq (spelling_of w) letters) words
