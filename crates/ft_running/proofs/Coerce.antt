-- The name `coerce`.
use Rattle.std.proofs.Common.{◌≡◌, true, arith}
use Rattle.std.specs.Prelude.{codes}
use Rattle.unicode_ident.specs.Ident.{is_xid_start, is_xid_continue}
use Rattle.unicode_ident.proofs.IdentLemmas.{is_xid_start-ascii, is_xid_continue-ascii}
use Rattle.ft_base.specs.Names.{is_name_token}

starts_c : is_xid_start 99 ≡ true
starts_c = is_xid_start-ascii 99 (omega arith)

goes_on_c : is_xid_continue 99 ≡ true
goes_on_c = is_xid_continue-ascii 99 (omega arith)

goes_on_e : is_xid_continue 101 ≡ true
goes_on_e = is_xid_continue-ascii 101 (omega arith)

goes_on_o : is_xid_continue 111 ≡ true
goes_on_o = is_xid_continue-ascii 111 (omega arith)

goes_on_r : is_xid_continue 114 ≡ true
goes_on_r = is_xid_continue-ascii 114 (omega arith)

pub coerce_name : is_name_token (codes "coerce") ≡ true
coerce_name = simp (starts_c, goes_on_c, goes_on_e, goes_on_o, goes_on_r)
