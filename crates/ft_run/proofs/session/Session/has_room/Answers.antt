use Rattle.std.proofs.Common.{◌≡◌, ap, length, nat_lt, arith}
use Rattle.ft_run.proofs.Accepted.{known_length}
use Rattle.ft_run.proofs.session.Session.has_room.Goals as goal

pub returns : goal.returns
returns c =
    let known = known_length c.self.inside.kernel c.self.inside.known.items c.args.self.now c.self.view_is in
    let count : c.len.result ≡ length c.args.self.now.rules = omega (arith, c.len.ensures, known) in
    ap (λ n. nat_lt n 65536) count
