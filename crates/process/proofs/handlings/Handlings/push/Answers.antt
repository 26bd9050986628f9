use Rattle.std.proofs.Common.{◌≡◌, ◌∙◌, ◌-◌, ◌++◌, ◌∷◌, [], List, ap, ap₂, length, rules, ℕ}
use Rattle.process.specs.Reports.{IsDone}
use Rattle.process.specs.declared.Done.{Done}
use Rattle.process.proofs.HandlingBytes.{holds, pushed}
use Rattle.process.proofs.handlings.Handlings.push.Goals as goal

pub invariant_of-self-in-Ok : goal.invariant_of-self-in-Ok
invariant_of-self-in-Ok c =
    let s = c.self.inside in
    let size : ℕ = c.len.result - c.len-end.result in
    let d : Done = record { message = c.args.message.now; sent = c.args.sent.now; after = c.args.after.now; number_after = c.args.number_after } in
    let is : IsDone d = c.parts_ranged.ensures (record { after = c.requires.after; number_after = c.requires.number; sent = c.requires.sent }) in
    let old : c.len-end.result ≡ length s.bytes.items = search rules in
    let new : c.len.result ≡ length c.append_parts.new.out.items = search rules in
    (pushed s.start s.lengths.items s.bytes.items c.args.self.now (holds s.start s.lengths.items s.bytes.items c.args.self.now c.self.invariant c.self.view_is) d size c.push_back_reserved.new.self.items c.append_parts.new.out.items is c.in-Ok.ensures.ok
    (ap₂ (λ (m n : ℕ). m - n) new old) (c.push_back_reserved.ensures.items ∙ ap (λ (ls : List ℕ). ls ++ size ∷ []) c.in_ok-reserve.ensures.items)).are

pub returns-in-Ok-clause-pushed : goal.returns-in-Ok-clause-pushed
returns-in-Ok-clause-pushed c =
    let s = c.self.inside in
    let size : ℕ = c.len.result - c.len-end.result in
    let d : Done = record { message = c.args.message.now; sent = c.args.sent.now; after = c.args.after.now; number_after = c.args.number_after } in
    let is : IsDone d = c.parts_ranged.ensures (record { after = c.requires.after; number_after = c.requires.number; sent = c.requires.sent }) in
    let old : c.len-end.result ≡ length s.bytes.items = search rules in
    let new : c.len.result ≡ length c.append_parts.new.out.items = search rules in
    (pushed s.start s.lengths.items s.bytes.items c.args.self.now (holds s.start s.lengths.items s.bytes.items c.args.self.now c.self.invariant c.self.view_is) d size c.push_back_reserved.new.self.items c.append_parts.new.out.items is c.in-Ok.ensures.ok
    (ap₂ (λ (m n : ℕ). m - n) new old) (c.push_back_reserved.ensures.items ∙ ap (λ (ls : List ℕ). ls ++ size ∷ []) c.in_ok-reserve.ensures.items)).value
