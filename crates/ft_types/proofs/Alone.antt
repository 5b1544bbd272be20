-- A checker between commands.
use Rattle.std.proofs.Common.{◌≡◌, ◌++◌, ◌-◌, ◌∙◌, arith, ap, [], List, length, drop, refl, ◌∷◌}
use Rattle.ft_types.specs.Checking.{Checking, scope_of}

-- nothing is left
drop_whole : {A : Type 0} (xs : List A) → drop (length xs) xs ≡ []
drop_whole [] = refl
drop_whole (x ∷ xs) = drop_whole xs

pub left_none : {A : Type 0} (xs : List A) → drop (length xs - 0) xs ≡ []
left_none xs = let n : length xs - 0 ≡ length xs = omega arith in ap (λ n. drop n xs) n ∙ drop_whole xs

-- without names within a command the scope is that of the commands before
pub alone : (v : Checking) → v.locals ≡ [] → scope_of v ≡ v.top
alone v h = ap (λ l. record v.top { values = l ++ v.top.values }) h
