-- A code of types, so that a model can have them.
use Rattle.std.specs.Prelude.{◌≡◌, zero, suc, List, refl}
use mathlib.Core.Path.{ap, ap₂}
use Rattle.std.specs.Coded.{code_by}
use base.Stored.{Coded, coded_list, Gv, gnil, gnum, gcons}
use Rattle.ft_meaning.specs.Trees.{ValueType, judgement, boundary, unit, bool, pair, list, option}

abbrev pub code : ValueType → Gv
code judgement = gnum 0
code boundary = gnum 1
code unit = gnum 2
code bool = gnum 3
code (pair A B) = gcons (gcons (code A) gnil) (code B)
code (list A) = gcons (gnum 0) (code A)
code (option A) = gcons (gnum 1) (code A)

abbrev pub decode : Gv → ValueType
decode (gnum zero) = judgement
decode (gnum (suc zero)) = boundary
decode (gnum (suc (suc zero))) = unit
decode (gnum (suc (suc (suc n)))) = bool
decode (gcons (gcons a b) c) = pair (decode a) (decode c)
decode (gcons (gnum zero) a) = list (decode a)
decode (gcons (gnum (suc n)) a) = option (decode a)
decode _ = judgement

pub decode-code : (A : ValueType) → decode (code A) ≡ A
decode-code judgement = refl
decode-code boundary = refl
decode-code unit = refl
decode-code bool = refl
decode-code (pair A B) = ap₂ pair (decode-code A) (decode-code B)
decode-code (list A) = ap list (decode-code A)
decode-code (option A) = ap option (decode-code A)

abbrev pub coded_type : Coded ValueType
coded_type = code_by Gv (record { code = λ x. x; inj = λ x y p. p }) code decode decode-code

abbrev pub coded_types : Coded (List ValueType)
coded_types = coded_list coded_type
