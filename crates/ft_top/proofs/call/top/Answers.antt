use Rattle.std.proofs.Common.{arith}
use Rattle.ft_answers.specs.declared.words.Job.TheVariants as job
use Rattle.ft_answers.specs.Statuses.{read_line}
use Rattle.ft_top.proofs.Calling.{most_of, has_status, no_usage, read_failed, with_line, too_long, no_memory, nothing_left, broken_off, whole_end, told_of, exactly, derived, begun}
use Rattle.ft_top.proofs.Telling.{exported_text, accepted_text, rejected_text, filed_text}
use Rattle.ft_top.proofs.Refusing.{refused_status, no_more, not_whole, refused_told}
use Rattle.ft_top.proofs.call.top.Goals as goal

pub returns-in-Some-clause-status : goal.returns-in-Some-clause-status
returns-in-Some-clause-status g c = has_status c.answer.ensures.called

pub returns-in-Some-clause-usage : goal.returns-in-Some-clause-usage
returns-in-Some-clause-usage g c = λ two. absurd (no_usage c.answer.ensures.called two)

pub returns-in-Some-clause-refused : goal.returns-in-Some-clause-refused
returns-in-Some-clause-refused g c = λ none. absurd (none c.in-Some.job c.in-Some.ensures.asked)

pub returns-in-Some-clause-unread : goal.returns-in-Some-clause-unread
returns-in-Some-clause-unread g c = λ none. absurd (none c.in-Some.job c.in-Some.ensures.asked)

pub returns-in-Some-clause-read : goal.returns-in-Some-clause-read
returns-in-Some-clause-read g c = λ three. (read_failed c.answer.ensures.called three).0

pub returns-in-Some-clause-read_line : goal.returns-in-Some-clause-read_line
returns-in-Some-clause-read_line g c = λ three other. with_line _ c.in-Some.job read_line _ _ c.in-Some.ensures.asked other (read_failed c.answer.ensures.called three).1

pub returns-in-Some-clause-long : goal.returns-in-Some-clause-long
returns-in-Some-clause-long g c = λ five. (c.in-Some.job, (c.in-Some.ensures.asked, too_long c.answer.ensures.called five))

pub returns-in-Some-clause-most : goal.returns-in-Some-clause-most
returns-in-Some-clause-most g c = λ i asked. most_of _ c.in-Some.job i _ _ c.in-Some.ensures.asked asked c.answer.ensures.most

pub returns-in-Some-clause-memory : goal.returns-in-Some-clause-memory
returns-in-Some-clause-memory g c = λ gone other. nothing_left _ c.in-Some.job _ _ _ c.in-Some.ensures.asked other (no_memory c.answer.ensures.called gone)

pub returns-in-Some-clause-broken : goal.returns-in-Some-clause-broken
returns-in-Some-clause-broken g c = λ gone export bytes told. broken_off _ c.in-Some.job _ _ _ bytes c.in-Some.ensures.asked export told (no_memory c.answer.ensures.called gone)

pub returns-in-Some-clause-end : goal.returns-in-Some-clause-end
returns-in-Some-clause-end g c = λ whole. whole_end c.answer.ensures.called whole

pub returns-in-Some-clause-told : goal.returns-in-Some-clause-told
returns-in-Some-clause-told g c = λ bytes told. told_of _ bytes c.in-Some.ensures.asked told c.answer.ensures.called

pub returns-in-Some-clause-answer : goal.returns-in-Some-clause-answer
returns-in-Some-clause-answer g c = λ i bytes told asked within quiet calm.
    exactly _ i bytes _ _ c.in-Some.ensures.asked asked told within quiet calm c.answer.ensures.rose c.answer.ensures.called

pub returns-in-Some-clause-derivable : goal.returns-in-Some-clause-derivable
returns-in-Some-clause-derivable g c = λ z i reads asked bytes told. derived _ i bytes c.in-Some.ensures.asked z reads asked told c.answer.ensures.called

pub returns-in-Some-clause-begun : goal.returns-in-Some-clause-begun
returns-in-Some-clause-begun g c = λ four i reads asked bytes told within quiet. begun _ i bytes c.in-Some.ensures.asked four reads asked told within quiet c.answer.ensures.called

pub returns-in-Some-clause-exported : goal.returns-in-Some-clause-exported
returns-in-Some-clause-exported g c = λ z asked bytes told. exported_text _ bytes c.in-Some.ensures.asked z asked told c.answer.ensures.called

pub returns-in-Some-clause-accepted : goal.returns-in-Some-clause-accepted
returns-in-Some-clause-accepted g c = λ z asked bytes told. accepted_text c.accepted_derivable.ensures.law _ bytes c.in-Some.ensures.asked z asked told c.answer.ensures.called

pub returns-in-Some-clause-rejected : goal.returns-in-Some-clause-rejected
returns-in-Some-clause-rejected g c = λ z bytes told. rejected_text bytes z told c.answer.ensures.called

pub returns-in-Some-clause-filed : goal.returns-in-Some-clause-filed
returns-in-Some-clause-filed g c = λ z bytes told. filed_text bytes z told c.answer.ensures.called

pub returns-in-None-clause-status : goal.returns-in-None-clause-status
returns-in-None-clause-status g c = refused_status _ _ _ c.refuse.ensures.ended

pub returns-in-None-clause-read : goal.returns-in-None-clause-read
returns-in-None-clause-read g c = λ three. absurd (no_more _ 3 _ _ c.refuse.ensures.ended three (λ e. absurd (omega (arith, e))) (λ e. absurd (omega (arith, e))))

pub returns-in-None-clause-read_line : goal.returns-in-None-clause-read_line
returns-in-None-clause-read_line g c = λ three _. absurd (no_more _ 3 _ _ c.refuse.ensures.ended three (λ e. absurd (omega (arith, e))) (λ e. absurd (omega (arith, e))))

pub returns-in-None-clause-long : goal.returns-in-None-clause-long
returns-in-None-clause-long g c = λ five. absurd (no_more _ 5 _ _ c.refuse.ensures.ended five (λ e. absurd (omega (arith, e))) (λ e. absurd (omega (arith, e))))

pub returns-in-None-clause-most : goal.returns-in-None-clause-most
returns-in-None-clause-most g c = λ i asked. absurd (c.in-None.ensures.none i asked)

pub returns-in-None-clause-memory : goal.returns-in-None-clause-memory
returns-in-None-clause-memory g c = λ gone _. absurd (no_more _ 17 _ _ c.refuse.ensures.ended gone (λ e. absurd (omega (arith, e))) (λ e. absurd (omega (arith, e))))

pub returns-in-None-clause-broken : goal.returns-in-None-clause-broken
returns-in-None-clause-broken g c = λ gone _ bytes _. absurd (no_more _ 17 _ _ c.refuse.ensures.ended gone (λ e. absurd (omega (arith, e))) (λ e. absurd (omega (arith, e))))

pub returns-in-None-clause-end : goal.returns-in-None-clause-end
returns-in-None-clause-end g c = λ whole. absurd (not_whole _ _ _ c.refuse.ensures.ended whole)

pub returns-in-None-clause-told : goal.returns-in-None-clause-told
returns-in-None-clause-told g c = λ bytes _. refused_told _ bytes _ _ _ _ _ c.in-None.ensures.none c.refuse.ensures.ended

pub returns-in-None-clause-answer : goal.returns-in-None-clause-answer
returns-in-None-clause-answer g c = λ i bytes _ asked _ _ _. absurd (c.in-None.ensures.none i asked)

pub returns-in-None-clause-derivable : goal.returns-in-None-clause-derivable
returns-in-None-clause-derivable g c = λ z i reads asked bytes _. absurd (c.in-None.ensures.none i asked)

pub returns-in-None-clause-begun : goal.returns-in-None-clause-begun
returns-in-None-clause-begun g c = λ four i reads asked bytes _ _ _. absurd (c.in-None.ensures.none i asked)

pub returns-in-None-clause-exported : goal.returns-in-None-clause-exported
returns-in-None-clause-exported g c = λ z asked bytes _. absurd (c.in-None.ensures.none job.Export asked)

pub returns-in-None-clause-accepted : goal.returns-in-None-clause-accepted
returns-in-None-clause-accepted g c = λ z asked bytes _. absurd (c.in-None.ensures.none job.Check asked)

pub returns-in-None-clause-rejected : goal.returns-in-None-clause-rejected
returns-in-None-clause-rejected g c = λ z bytes _. absurd (no_more _ 15 _ _ c.refuse.ensures.ended z (λ e. absurd (omega (arith, e))) (λ e. absurd (omega (arith, e))))

pub returns-in-None-clause-filed : goal.returns-in-None-clause-filed
returns-in-None-clause-filed g c = λ z bytes _. absurd (no_more _ 16 _ _ c.refuse.ensures.ended z (λ e. absurd (omega (arith, e))) (λ e. absurd (omega (arith, e))))
