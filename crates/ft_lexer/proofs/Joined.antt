-- A name token alone, and two texts joined by a line feed.
use Rattle.std.proofs.Common.{◌≡◌, ◌≤◌, ◌<◌, ◌+◌, ◌-◌, ◌∙◌, sym, ap, refl, ℕ, zero, suc, List, [], ◌∷◌, ◌++◌, length, take, drop, map, Option, Some, None, Bool, true, false, not, ◌&&◌, ◌==◌, if◌then◌else◌, append_assoc, arith}
use Rattle.std.specs.List.{list_all}
use Rattle.std.specs.Char.{len_utf8, is_ascii_digit}
use Rattle.std.proofs.Math.Bool.{and-false}
use Rattle.std.proofs.lemmas.Bool.{eqb-true, false_from_ne_true}
use Rattle.std.proofs.Math.Seq.{take-length, drop-length}
use Rattle.std.proofs.lemmas.List.{take-append-le, map-append, length-append}
use Rattle.unicode_ident.specs.Ident.{is_xid_continue}
use Rattle.unicode_ident.proofs.Computing.{unicode_ident}
use Rattle.ft_base.specs.Names.{starts_name, is_lone_underscore, is_name_token}
use Rattle.ft_common.proofs.Booleans.{and_left, and_right}
use Rattle.ft_common.proofs.Choices.{if_true, if_false}
use Rattle.ft_common.proofs.Digits.{run-le}
use Rattle.ft_grammar.specs.declared.token.Kind.{Kind}
use Rattle.ft_grammar.specs.declared.token.Kind.TheVariants.{Name, End}
use Rattle.ft_grammar.specs.declared.token.Token.{Token}
use Rattle.ft_grammar.specs.Fronts.{run, is_space, begins_comment, is_no_line_feed, name_kind, number_kind, mark_front, front}
use Rattle.ft_grammar.specs.Tokens.{width, token_at, tokens_from, tokens_of}
use Rattle.ft_grammar.specs.Made.{without_last, moved_token}
use Rattle.ft_lexer.proofs.Runs.{run_all, run-append}
use Rattle.ft_lexer.proofs.Steps.{tokens_step}
use Rattle.ft_lexer.proofs.Pieces.{front-is}

-- ---- a name token alone

starts_name-32 : starts_name 32 ≡ false
unfolding unicode_ident
starts_name-32 = refl

starts_name-9 : starts_name 9 ≡ false
unfolding unicode_ident
starts_name-9 = refl

starts_name-13 : starts_name 13 ≡ false
unfolding unicode_ident
starts_name-13 = refl

starts_name-10 : starts_name 10 ≡ false
unfolding unicode_ident
starts_name-10 = refl

starts_name-45 : starts_name 45 ≡ false
unfolding unicode_ident
starts_name-45 = refl

is_xid_continue-10 : is_xid_continue 10 ≡ false
unfolding unicode_ident
is_xid_continue-10 = refl

-- a character that starts a name is none that doesn't
differs : (c k : ℕ) → starts_name c ≡ true → starts_name k ≡ false → (c == k) ≡ false
differs c k starts other = false_from_ne_true (c == k) (λ same.
    let both : true ≡ false = sym starts ∙ ap starts_name (eqb-true c k same) ∙ other in cc)

is_space-starts : (c : ℕ) → starts_name c ≡ true → is_space c ≡ false
is_space-starts c starts =
    rw (differs c 32 starts starts_name-32, differs c 9 starts starts_name-9, differs c 13 starts starts_name-13, differs c 10 starts starts_name-10) refl

begins_comment-starts : (c : ℕ) (cs : List ℕ) → starts_name c ≡ true → begins_comment c cs ≡ false
begins_comment-starts c [] starts = refl
begins_comment-starts c (d ∷ cs) starts = rw (differs c 45 starts starts_name-45) refl

front-starts : (c : ℕ) (cs : List ℕ) → starts_name c ≡ true
    → front c cs ≡ (Some (name_kind (c ∷ take (run is_xid_continue cs) cs)), suc (run is_xid_continue cs))
front-starts c cs starts =
    if_false _ _ (is_space c) (is_space-starts c starts)
    ∙ if_false _ _ (begins_comment c cs) (begins_comment-starts c cs starts)
    ∙ if_true _ _ (starts_name c) starts

front-name : (c : ℕ) (cs : List ℕ) → is_name_token (c ∷ cs) ≡ true → front c cs ≡ (Some (Name (c ∷ cs)), suc (length cs))
front-name c cs is =
    let first = and_left (starts_name c && list_all is_xid_continue cs && not (is_lone_underscore (c ∷ cs))) _ is in
    let second = and_left (starts_name c && list_all is_xid_continue cs) _ first in
    let starts : starts_name c ≡ true = and_left (starts_name c) (list_all is_xid_continue cs) second in
    let all : list_all is_xid_continue cs ≡ true = and_right (starts_name c) (list_all is_xid_continue cs) second in
    let goes : run is_xid_continue cs ≡ length cs = run_all is_xid_continue cs all in
    let whole : name_kind (c ∷ cs) ≡ Name (c ∷ cs) = rw is refl in
    front-starts c cs starts
    ∙ ap (λ n. (Some (name_kind (c ∷ take n cs)), suc n)) goes
    ∙ ap (λ ds. (Some (name_kind (c ∷ ds)), suc (length cs))) (take-length cs)
    ∙ ap (λ k. (Some k, suc (length cs))) whole

pub tokens_of-name : (cs : List ℕ) → is_name_token cs ≡ true
    → tokens_of cs ≡ record { kind = Name cs; start = 0; end = width cs } ∷ record { kind = End; start = width cs; end = width cs } ∷ []
tokens_of-name [] is = cc
tokens_of-name (c ∷ cs) is =
    let n = suc (length cs) in
    let step = tokens_step 0 c cs (Some (Name (c ∷ cs))) n (front-name c cs is) (omega arith) (omega arith) in
    let piece : take n (c ∷ cs) ≡ c ∷ cs = take-length (c ∷ cs) in
    let rest : drop n (c ∷ cs) ≡ [] = drop-length (c ∷ cs) in
    let there : 0 + width (c ∷ cs) ≡ width (c ∷ cs) = omega arith in
    step ∙ ap (λ p. token_at 0 (Some (Name (c ∷ cs))) (0 + width p) ++ tokens_from (0 + width p) 0 (drop n (c ∷ cs))) piece
    ∙ ap (λ r. token_at 0 (Some (Name (c ∷ cs))) (0 + width (c ∷ cs)) ++ tokens_from (0 + width (c ∷ cs)) 0 r) rest
    ∙ ap (λ m. token_at 0 (Some (Name (c ∷ cs))) m ++ tokens_from m 0 []) there

-- ---- two texts joined by a line feed

take-run-append : (passes : ℕ → Bool) (cs after : List ℕ) → passes 10 ≡ false → take (run passes (cs ++ 10 ∷ after)) (cs ++ 10 ∷ after) ≡ take (run passes cs) cs
take-run-append passes cs after stops =
    ap (λ n. take n (cs ++ 10 ∷ after)) (run-append passes 10 cs after stops)
    ∙ take-append-le (run passes cs) cs (10 ∷ after) (run-le passes cs)

begins_comment-append : (c : ℕ) (cs after : List ℕ) → begins_comment c (cs ++ 10 ∷ after) ≡ begins_comment c cs
begins_comment-append c [] after = and-false (c == 45)
begins_comment-append c (d ∷ cs) after = refl

mark_front-append : (c : ℕ) (cs after : List ℕ) → mark_front c (cs ++ 10 ∷ after) ≡ mark_front c cs
mark_front-append c [] after =
    if_false _ _ (c == 58 && 10 == 58) (and-false (c == 58))
    ∙ if_false _ _ (c == 61 && 10 == 61) (and-false (c == 61))
    ∙ if_false _ _ (c == 45 && 10 == 62) (and-false (c == 45))
mark_front-append c (d ∷ cs) after = refl

-- what the five kinds of front are made of
abbrev choice : Bool → Bool → Bool → Bool → ℕ → Kind → ℕ → Kind → ℕ → Kind × ℕ → Option Kind × ℕ
choice space comment name digit line spelled letters number digits mark =
    if space then (None, 1) else (if comment then (None, suc line) else (if name then (Some spelled, suc letters)
    else (if digit then (Some number, suc digits) else (Some mark.0, mark.1))))

pub front-append : (c : ℕ) (cs after : List ℕ) → front c (cs ++ 10 ∷ after) ≡ front c cs
front-append c cs after =
    let both = cs ++ 10 ∷ after in
    let line = run-append is_no_line_feed 10 cs after refl in
    let letters = run-append is_xid_continue 10 cs after is_xid_continue-10 in
    let digits = run-append is_ascii_digit 10 cs after refl in
    ap (λ comment. choice (is_space c) comment (starts_name c) (is_ascii_digit c) (run is_no_line_feed both)
    (name_kind (c ∷ take (run is_xid_continue both) both)) (run is_xid_continue both)
    (number_kind (c ∷ take (run is_ascii_digit both) both)) (run is_ascii_digit both) (mark_front c both)) (begins_comment-append c cs after)
    ∙ ap (λ n. choice (is_space c) (begins_comment c cs) (starts_name c) (is_ascii_digit c) n
    (name_kind (c ∷ take (run is_xid_continue both) both)) (run is_xid_continue both)
    (number_kind (c ∷ take (run is_ascii_digit both) both)) (run is_ascii_digit both) (mark_front c both)) line
    ∙ ap (λ ds. choice (is_space c) (begins_comment c cs) (starts_name c) (is_ascii_digit c) (run is_no_line_feed cs)
    (name_kind (c ∷ ds)) (run is_xid_continue both)
    (number_kind (c ∷ take (run is_ascii_digit both) both)) (run is_ascii_digit both) (mark_front c both))
    (take-run-append is_xid_continue cs after is_xid_continue-10)
    ∙ ap (λ n. choice (is_space c) (begins_comment c cs) (starts_name c) (is_ascii_digit c) (run is_no_line_feed cs)
    (name_kind (c ∷ take (run is_xid_continue cs) cs)) n
    (number_kind (c ∷ take (run is_ascii_digit both) both)) (run is_ascii_digit both) (mark_front c both)) letters
    ∙ ap (λ ds. choice (is_space c) (begins_comment c cs) (starts_name c) (is_ascii_digit c) (run is_no_line_feed cs)
    (name_kind (c ∷ take (run is_xid_continue cs) cs)) (run is_xid_continue cs)
    (number_kind (c ∷ ds)) (run is_ascii_digit both) (mark_front c both)) (take-run-append is_ascii_digit cs after refl)
    ∙ ap (λ n. choice (is_space c) (begins_comment c cs) (starts_name c) (is_ascii_digit c) (run is_no_line_feed cs)
    (name_kind (c ∷ take (run is_xid_continue cs) cs)) (run is_xid_continue cs)
    (number_kind (c ∷ take (run is_ascii_digit cs) cs)) n (mark_front c both)) digits
    ∙ ap (choice (is_space c) (begins_comment c cs) (starts_name c) (is_ascii_digit c) (run is_no_line_feed cs)
    (name_kind (c ∷ take (run is_xid_continue cs) cs)) (run is_xid_continue cs)
    (number_kind (c ∷ take (run is_ascii_digit cs) cs)) (run is_ascii_digit cs)) (mark_front-append c cs after)

token_at-moved : (bytes start : ℕ) (kind : Option Kind) (end : ℕ) → token_at (bytes + start) kind (bytes + end) ≡ map (moved_token bytes) (token_at start kind end)
token_at-moved bytes start None end = refl
token_at-moved bytes start (Some kind) end = refl

tokens_from-moved : (bytes at told : ℕ) (cs : List ℕ) → tokens_from (bytes + at) told cs ≡ map (moved_token bytes) (tokens_from at told cs)
tokens_from-moved bytes at told [] = refl
tokens_from-moved bytes at (suc told) (c ∷ cs) =
    let there : bytes + at + len_utf8 c ≡ bytes + (at + len_utf8 c) = omega arith in
    ap (λ n. tokens_from n told cs) there ∙ tokens_from-moved bytes (at + len_utf8 c) told cs
tokens_from-moved bytes at zero (c ∷ cs) =
    let w = width (take (front c cs).1 (c ∷ cs)) in
    let end : bytes + at + w ≡ bytes + (at + w) = omega arith in
    let there : bytes + at + len_utf8 c ≡ bytes + (at + len_utf8 c) = omega arith in
    let more = (front c cs).1 - 1 in
    ap (λ n. token_at (bytes + at) (front c cs).0 n ++ tokens_from (bytes + at + len_utf8 c) more cs) end
    ∙ ap (λ n. token_at (bytes + at) (front c cs).0 (bytes + (at + w)) ++ tokens_from n more cs) there
    ∙ ap (λ ts. ts ++ tokens_from (bytes + (at + len_utf8 c)) more cs) (token_at-moved bytes at (front c cs).0 (at + w))
    ∙ ap (λ ts. map (moved_token bytes) (token_at at (front c cs).0 (at + w)) ++ ts) (tokens_from-moved bytes (at + len_utf8 c) more cs)
    ∙ sym (map-append (moved_token bytes) (token_at at (front c cs).0 (at + w)) (tokens_from (at + len_utf8 c) more cs))

tokens_from-some : (at told : ℕ) (cs : List ℕ) → 0 < length (tokens_from at told cs)
tokens_from-some at told [] = omega arith
tokens_from-some at (suc told) (c ∷ cs) = tokens_from-some (at + len_utf8 c) told cs
tokens_from-some at zero (c ∷ cs) =
    let w = width (take (front c cs).1 (c ∷ cs)) in
    let more = tokens_from (at + len_utf8 c) ((front c cs).1 - 1) cs in
    omega (arith, length-append (token_at at (front c cs).0 (at + w)) more, tokens_from-some (at + len_utf8 c) ((front c cs).1 - 1) cs)

without_last-cons : (t : Token) (ts : List Token) → 0 < length ts → without_last (t ∷ ts) ≡ t ∷ without_last ts
without_last-cons t [] some = absurd (omega arith)
without_last-cons t (u ∷ us) some = refl

without_last-token_at : (start : ℕ) (kind : Option Kind) (end : ℕ) (ts : List Token) → 0 < length ts
    → without_last (token_at start kind end ++ ts) ≡ token_at start kind end ++ without_last ts
without_last-token_at start None end ts some = refl
without_last-token_at start (Some kind) end ts some = without_last-cons (record { kind = kind; start = start; end = end }) ts some

tokens_from-append : (at told : ℕ) (cs after : List ℕ) → told ≤ length cs
    → tokens_from at told (cs ++ 10 ∷ after) ≡ without_last (tokens_from at told cs) ++ tokens_from (at + width cs + 1) 0 after
tokens_from-append at zero [] after within =
    let there : at + len_utf8 10 ≡ at + width [] + 1 = omega arith in
    ap (λ n. tokens_from n 0 after) there
tokens_from-append at (suc told) [] after within = absurd (omega arith)
tokens_from-append at (suc told) (c ∷ cs) after within =
    let there : at + len_utf8 c + width cs + 1 ≡ at + width (c ∷ cs) + 1 = omega arith in
    tokens_from-append (at + len_utf8 c) told cs after (omega arith)
    ∙ ap (λ n. without_last (tokens_from (at + len_utf8 c) told cs) ++ tokens_from n 0 after) there
tokens_from-append at zero (c ∷ cs) after within =
    let is = front-is c cs in
    let n = (front c cs).1 in
    let kind = (front c cs).0 in
    let next = at + len_utf8 c in
    let more = tokens_from next (n - 1) cs in
    let here = token_at at kind (at + width (take n (c ∷ cs))) in
    let both = cs ++ 10 ∷ after in
    let there : next + width cs + 1 ≡ at + width (c ∷ cs) + 1 = omega arith in
    let taken : take n (c ∷ both) ≡ take n (c ∷ cs) = take-append-le n (c ∷ cs) (10 ∷ after) (omega (arith, is.1)) in
    let rest = tokens_from-append next (n - 1) cs after (omega (arith, is.1)) in
    ap (λ f. token_at at f.0 (at + width (take f.1 (c ∷ both))) ++ tokens_from next (f.1 - 1) both) (front-append c cs after)
    ∙ ap (λ p. token_at at kind (at + width p) ++ tokens_from next (n - 1) both) taken
    ∙ ap (λ ts. here ++ ts) rest
    ∙ ap (λ m. here ++ (without_last more ++ tokens_from m 0 after)) there
    ∙ sym (append_assoc here (without_last more) (tokens_from (at + width (c ∷ cs) + 1) 0 after))
    ∙ ap (λ ts. ts ++ tokens_from (at + width (c ∷ cs) + 1) 0 after)
    (sym (without_last-token_at at kind (at + width (take n (c ∷ cs))) more (tokens_from-some next (n - 1) cs)))

pub tokens_of-append : (before after : List ℕ)
    → tokens_of (before ++ 10 ∷ after) ≡ without_last (tokens_of before) ++ map (moved_token (width before + 1)) (tokens_of after)
tokens_of-append before after =
    let there : 0 + width before + 1 ≡ width before + 1 + 0 = omega arith in
    tokens_from-append 0 0 before after (omega arith)
    ∙ ap (λ n. without_last (tokens_of before) ++ tokens_from n 0 after) there
    ∙ ap (λ ts. without_last (tokens_of before) ++ ts) (tokens_from-moved (width before + 1) 0 0 after)
