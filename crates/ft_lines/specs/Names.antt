-- Reading names, the only pieces that are not plain ASCII.
use Rattle.std.specs.Prelude.{ℕ, ◌==◌, ◌&&◌, not, Bool, true, if◌then◌else◌, List, [], ◌∷◌, take, drop, Option, Some, None, Ok, Err}
use Rattle.std.specs.Str.{is_utf8, chars}
use Rattle.ft_base.specs.Names.{is_name_token}
use Rattle.ft_items.specs.Item.{Name}
use Rattle.ft_common.specs.Digits.{run}
use Rattle.ft_lines.specs.declared.fault.Fault.TheVariants.{Form}
use Rattle.ft_lines.specs.Reading.{Outcome, Reader}

-- a byte that a name may have
abbrev pub is_no_space : ℕ → Bool
is_no_space b = not (b == 32)

-- the name token whose UTF-8 the bytes are
abbrev pub name_in : List ℕ → Option Name
name_in bytes = if is_utf8 bytes && is_name_token (chars bytes) then Some (chars bytes) else None

abbrev pub name_then : Option Name → List ℕ → Outcome Name
name_then (Some n) cs = Ok (n, cs)
name_then None cs = Err Form

-- a name: the bytes up to the next space, or to the end
unfoldable pub name : Reader Name
name cs = name_then (name_in (take (run is_no_space cs) cs)) (drop (run is_no_space cs) cs)

-- whether a space or nothing follows
abbrev pub ends_name : List ℕ → Bool
ends_name [] = true
ends_name (b ∷ bs) = b == 32
