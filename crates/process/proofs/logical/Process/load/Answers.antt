use Rattle.std.proofs.Common.{◌≡◌, ◌∙◌, ap, false, subst, sym}
use Rattle.process.proofs.Calls.{same_process}
use Rattle.process.proofs.Sound.{loaded_sound}
use Rattle.process.specs.Course.{Course}
use Rattle.process.specs.Inside.{view_of}
use Rattle.process.specs.Process.{Process}
use Rattle.process.specs.View.{IsSound, has_foreign, loaded}
use Rattle.queues.specs.Queue.{Queue}
use Rattle.queues.specs.Record.{messages}
use Rattle.process.proofs.logical.Process.load.Goals as goal

pub invariant_of-result : goal.invariant_of-result
invariant_of-result c = λ _.
    let own : has_foreign c.args.lp c.args.pending.items ≡ false = ap (has_foreign c.args.lp) (sym c.as_slice.ensures.value) ∙ (sym c.is_foreign.ensures ∙ c.if-is_foreign.false) in
    let is : (view_of (record { alloc = c.args.alloc; lp = c.args.lp; floor = c.args.floor; spent = false; queue = c.in_ok-of_waiting.field-0; history = c.new.result })).process ≡ loaded c.args.words.items c.args.number c.args.pending.items =
    same_process _ (loaded c.args.words.items c.args.number c.args.pending.items) (ap (λ (h : Course). h.done) c.new.ensures) (ap (λ (q : Queue). q.waiting) c.in_ok-of_waiting.ensures) (ap (λ (q : Queue). q.antis) c.in_ok-of_waiting.ensures) (ap (λ (h : Course). h.state) c.new.ensures) (ap (λ (h : Course). h.number) c.new.ensures) in (
      ap (λ (q : Queue). q.done) c.in_ok-of_waiting.ensures ∙ sym (ap (λ (h : Course). messages h.done) c.new.ensures),
      subst (λ (q : Process). IsSound (record { lp = c.args.lp; floor = c.args.floor; spent = false; process = q })) (sym is)
          (loaded_sound c.args.lp c.args.floor c.args.number false c.args.words.items c.args.pending.items c.requires.few c.requires.number own),
    )
