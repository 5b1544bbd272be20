-- What stays while a command is checked.
use Rattle.std.proofs.Common.{◌≡◌, ◌∙◌, length}
use Rattle.ft_types.specs.declared.types.KnownType.{KnownType}
use Rattle.ft_types.specs.Types.{type_in, Below}
use Rattle.ft_types.specs.Checking.{Checking, Keeps}
use Rattle.ft_types.proofs.Tables.{extends_same, extends_trans, below_extends, type_extends}

pub keeps_same : (v w : Checking) → w.top ≡ v.top → w.types ≡ v.types → Keeps v w
keeps_same v w top types = record { top = top; types = extends_same v.types w.types types }

pub keeps_trans : (u v w : Checking) → Keeps u v → Keeps v w → Keeps u w
keeps_trans u v w a b = record { top = b.top ∙ a.top; types = extends_trans u.types v.types w.types a.types b.types }

pub below_kept : (v w : Checking) (t : KnownType) → Keeps v w → Below (length v.types) t → Below (length w.types) t
below_kept v w t k b = below_extends v.types w.types t k.types b

pub type_kept_on : (v w : Checking) (t : KnownType) → Keeps v w → Below (length v.types) t → type_in w.types t ≡ type_in v.types t
type_kept_on v w t k b = type_extends v.types w.types t k.types b
