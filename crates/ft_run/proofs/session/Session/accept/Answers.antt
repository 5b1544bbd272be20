use Rattle.std.proofs.Common.{◌<◌, ◌≤◌, length, arith}
use Rattle.ft_run.proofs.Accepted.{room_there, room_found, no_room}
use Rattle.ft_run.proofs.session.Session.accept.Goals as goal

pub returns-then-len-ge-MAX_RULES-clause-none : goal.returns-then-len-ge-MAX_RULES-clause-none
returns-then-len-ge-MAX_RULES-clause-none c =
    let many : 65536 ≤ length c.self.inside.known.items = omega (arith, c.len.ensures, c.if-len-ge-MAX_RULES.true) in
    λ _. no_room c.self.inside.kernel c.self.inside.known.items c.args.self.now c.self.view_is many

pub add-requires-clause-room : goal.add-requires-clause-room
add-requires-clause-room c =
    let few : length c.self.inside.known.items < 65536 = omega (arith, c.len.ensures, c.if-len-ge-MAX_RULES.false) in
    room_there c.self.inside.kernel c.self.inside.known.items c.args.self.now c.self.view_is few

pub returns-clause-room : goal.returns-clause-room
returns-clause-room c =
    let few : length c.self.inside.known.items < 65536 = omega (arith, c.len.ensures, c.if-len-ge-MAX_RULES.false) in
    room_found c.self.inside.kernel c.self.inside.known.items c.args.self.now c.self.view_is few
