use Rattle.std.proofs.Common.{◌≡◌, ◌∙◌, ◌∷◌, ℕ, List, [], find, ◌≤◌, length, get_or, Option, subst, arith}
use Rattle.std.specs.Str.{bytes_eq}
use Rattle.ft_base.specs.Words.{word_of, spelling_of}
use Rattle.ft_base.specs.declared.word.Word.{Word}
use Rattle.ft_base.proofs.word.Word.of.Goals as goal

-- characters are their first one with others
by_letter : (cs : List ℕ) (c : ℕ) (ws : List Word) (r : Option Word) → 1 ≤ length cs → c ≡ get_or cs 0 c
    → ((rest : List ℕ) → find (λ w. bytes_eq (spelling_of w) (c ∷ rest)) ws ≡ word_of (c ∷ rest)) → r ≡ find (λ w. bytes_eq (spelling_of w) cs) ws → r ≡ word_of cs
by_letter [] c ws r l e h k = absurd (omega arith)
by_letter (d ∷ cs) c ws r l e h k = k ∙ subst (λ x. find (λ w. bytes_eq (spelling_of w) (x ∷ cs)) ws ≡ word_of (x ∷ cs)) e (h cs)

pub returns-in-len1-up : goal.returns-in-len1-up
returns-in-len1-up c =
    by_letter c.args.spelling.now c.first-item.result c.words_from.result.now c.first_spelled.result c.in-len1-up.len_at_least c.first-item.is c.words_from.ensures c.first_spelled.ensures
