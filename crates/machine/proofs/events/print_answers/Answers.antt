use Rattle.std.proofs.Common.{◌≡◌, ◌∷◌, ◌∙◌, [], ℤ, Some, ap, rules, subst, w32}
use Rattle.std.proofs.lemmas.Int.{to_z-of_z}
use mir.Val.{SFits}
use Rattle.host_port.specs.Printing.{Prints}
use Rattle.xinu_base.specs.declared.syscalls.Next.TheVariants as next
use Rattle.xinu_model.specs.Machine.{CallState, return_line}
use Rattle.xinu_model.specs.Text.{shown}
use Rattle.machine.proofs.Closing.{answers_printed}
use Rattle.machine.proofs.events.print_answers.Goals as goal

pub returns-in-Some-Returns : goal.returns-in-Some-Returns
returns-in-Some-Returns g c =
    let value = c.in-Some-Returns.value in
    let P : ℤ → Type 0 = λ v. Prints c.print_replies.new.out c.print_reply.new.out (g.H.Host.view c.print_replies.new.host) (g.H.Host.view c.print_reply.new.host) (shown c.print_replies.new.out.plain (return_line (c.current.result, v) ∷ [])) in
    let f : SFits w32 value = search rules in
    let is : c.answer.result ≡ Some (next.Returns value) = search rules in
    record {
      prints = answers_printed c.args.kernel.now.came c.answer.result value c.current.result c.released.result.now _ _ _ _ _ _ c.answer.ensures.answer is (c.released.ensures.released ∙ ap (λ (d : CallState). d.released) c.state.ensures.state)
          c.current.ensures.current c.print_replies.ensures.prints (subst P (to_z-of_z w32 value f) c.print_reply.ensures.prints);
    }
