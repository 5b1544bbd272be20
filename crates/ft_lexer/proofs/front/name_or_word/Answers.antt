use Rattle.std.proofs.Common.{rules, ◌≡◌, ◌∙◌, sym}
use Rattle.ft_base.specs.Names.{is_name_token}
use Rattle.ft_base.specs.Words.{word_of}
use Rattle.ft_grammar.specs.Fronts.{word_or_mark}
use Rattle.ft_lexer.proofs.Fronts.{name_of-some, name_of-none}
use Rattle.ft_lexer.proofs.front.name_or_word.Goals as goal

pub returns-in-Some : goal.returns-in-Some
returns-in-Some c =
    let s = c.args.spelling.items in
    name_of-some (is_name_token s) s c.in-Some.name (word_or_mark (word_of s)) (sym c.in-Some.is ∙ c.from_chars.ensures)

pub returns-in-None : goal.returns-in-None
returns-in-None c =
    let s = c.args.spelling.items in
    let word : c.word_or_underscore.result ≡ word_or_mark (word_of s) = search rules in
    word ∙ name_of-none (is_name_token s) s (word_or_mark (word_of s)) (sym c.in-None.is ∙ c.from_chars.ensures)
