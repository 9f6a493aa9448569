use Rattle.std.proofs.Common.{refl}
use Rattle.xinu_model.specs.Files.Syscalls.{files_of, request_for}
use Rattle.xinu_laws.proofs.FileSyscalls.Answered.{callers_are_told, answered_at_once, call_queued}
use Rattle.event_laws.proofs.replies.file_callers_are_answered.Goals as goal

pub returns-clause-queued : goal.returns-clause-queued
returns-clause-queued c = λ call at s. call_queued (files_of s).calls (request_for call at s) s.memory (files_of s) refl

pub returns-clause-told : goal.returns-clause-told
returns-clause-told c = callers_are_told

pub returns-clause-at_once : goal.returns-clause-at_once
returns-clause-at_once c = answered_at_once
