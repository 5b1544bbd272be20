-- Name tokens.
use Rattle.std.specs.Prelude.{ℕ, ◌&&◌, ◌||◌, ◌==◌, Bool, false, not, List, [], ◌∷◌, is_some}
use Rattle.std.specs.List.{list_all}
use Rattle.unicode_ident.specs.Ident.{is_xid_start, is_xid_continue}
use Rattle.ft_base.specs.Words.{word_of}

-- whether a name may begin with the character: a letter by Unicode's XID_Start, or an underscore
abbrev pub starts_name : ℕ → Bool
starts_name c = c == 95 || is_xid_start c

-- whether the characters are an underscore alone, which is a mark
abbrev pub is_lone_underscore : List ℕ → Bool
is_lone_underscore (c ∷ []) = c == 95
is_lone_underscore _ = false

-- whether the characters are a name token: the first starts a name and the others continue it, and they are neither a lone
-- underscore nor one of the words
abbrev pub is_name_token : List ℕ → Bool
is_name_token [] = false
is_name_token (c ∷ cs) =
    starts_name c && list_all is_xid_continue cs && not (is_lone_underscore (c ∷ cs)) && not (is_some (word_of (c ∷ cs)))
