use Rattle.std.proofs.Common.{◌≡◌, ◌<◌, ◌-◌, ◌∙◌, List, ℕ, Some, None, ap, arith, length, nat_cmp, subst, sym}
use Rattle.std.specs.BTreeMap.{is_at}
use Rattle.std.specs.Map.{lookup, remove_entry, set_value}
use Rattle.eventkey.specs.Bag.{is_among, remove_one}
use Rattle.eventkey.specs.Message.{Message}
use Rattle.queues.proofs.Buckets.{not_found, not_in, remove_gone, remove_last, set_same}
use Rattle.queues.specs.Buckets.{IsParted, all_of}
use Rattle.queues.proofs.bag.Bag.remove.Goals as goal

pub returns-in_default-clause-answer : goal.returns-in_default-clause-answer
returns-in_default-clause-answer c =
    let m = c.args.message.now in
    let es = c.self.inside.times.entries in
    let none : lookup (is_at (nat_cmp m.time)) es ≡ None = ap (λ (t : ℕ). lookup (is_at (nat_cmp t)) es) (sym c.time.ensures) ∙ sym c.in_default.ensures.value in
    sym (not_found m es c.self.invariant.0 none).0 ∙ ap (is_among m) c.self.view_is

pub returns-in_default-clause-removed : goal.returns-in_default-clause-removed
returns-in_default-clause-removed c =
    let m = c.args.message.now in
    let es = c.self.inside.times.entries in
    let none : lookup (is_at (nat_cmp m.time)) es ≡ None = ap (λ (t : ℕ). lookup (is_at (nat_cmp t)) es) (sym c.time.ensures) ∙ sym c.in_default.ensures.value in
    ap (λ n. all_of n.entries) c.get_mut.follows.holds-at-none ∙ ((not_found m es c.self.invariant.0 none).1 ∙ ap (remove_one m) c.self.view_is)

pub invariant_of-self-in-Missing : goal.invariant_of-self-in-Missing
invariant_of-self-in-Missing c =
    let m = c.args.message.now in
    let es = c.self.inside.times.entries in
    let b = c.in-Some.bucket.now in
    let held : lookup (is_at (nat_cmp m.time)) es ≡ Some b = ap (λ (t : ℕ). lookup (is_at (nat_cmp t)) es) (sym c.time.ensures) ∙ sym c.in-Some.ensures.value in
    let w = c.remove.new.self in
    let put : (c.get_mut.follows.lender w).entries ≡ set_value (is_at (nat_cmp m.time)) es w = (c.get_mut.follows.holds w).0 ∙ ap (λ (t : ℕ). set_value (is_at (nat_cmp t)) es w) c.time.ensures in
    let same : (c.get_mut.follows.lender w).entries ≡ es = put ∙ (ap (set_value (is_at (nat_cmp m.time)) es) c.in-Missing.ensures.1 ∙ set_same m.time b es held) in
    subst (λ (fs : List (ℕ × List Message)). IsParted fs × (c.self.inside.len ≡ length (all_of fs))) (sym same) c.self.invariant

pub returns-in-Missing-clause-answer : goal.returns-in-Missing-clause-answer
returns-in-Missing-clause-answer c =
    let m = c.args.message.now in
    let es = c.self.inside.times.entries in
    let b = c.in-Some.bucket.now in
    let held : lookup (is_at (nat_cmp m.time)) es ≡ Some b = ap (λ (t : ℕ). lookup (is_at (nat_cmp t)) es) (sym c.time.ensures) ∙ sym c.in-Some.ensures.value in
    sym (not_in m es c.self.invariant.0 b held c.in-Missing.ensures.0).0 ∙ ap (is_among m) c.self.view_is

pub returns-in-Missing-clause-removed : goal.returns-in-Missing-clause-removed
returns-in-Missing-clause-removed c =
    let m = c.args.message.now in
    let es = c.self.inside.times.entries in
    let b = c.in-Some.bucket.now in
    let held : lookup (is_at (nat_cmp m.time)) es ≡ Some b = ap (λ (t : ℕ). lookup (is_at (nat_cmp t)) es) (sym c.time.ensures) ∙ sym c.in-Some.ensures.value in
    let w = c.remove.new.self in
    let put : (c.get_mut.follows.lender w).entries ≡ set_value (is_at (nat_cmp m.time)) es w = (c.get_mut.follows.holds w).0 ∙ ap (λ (t : ℕ). set_value (is_at (nat_cmp t)) es w) c.time.ensures in
    let same : (c.get_mut.follows.lender w).entries ≡ es = put ∙ (ap (set_value (is_at (nat_cmp m.time)) es) c.in-Missing.ensures.1 ∙ set_same m.time b es held) in
    ap all_of same ∙ ((not_in m es c.self.invariant.0 b held c.in-Missing.ensures.0).1 ∙ ap (remove_one m) c.self.view_is)

pub overflow_sub-self : goal.overflow_sub-self
overflow_sub-self c =
    let m = c.args.message.now in
    let es = c.self.inside.times.entries in
    let b = c.in-Some.bucket.now in
    let held : lookup (is_at (nat_cmp m.time)) es ≡ Some b = ap (λ (t : ℕ). lookup (is_at (nat_cmp t)) es) (sym c.time.ensures) ∙ sym c.in-Some.ensures.value in
    let less = c.in-Gone.ensures in
    let r = remove_gone m es c.self.invariant.0 b held less.0 (subst (λ (ys : List Message). 0 < length ys) less.1 less.2) in
    omega (arith, r.long, c.self.invariant.1)

pub invariant_of-self-in-Gone : goal.invariant_of-self-in-Gone
invariant_of-self-in-Gone c =
    let m = c.args.message.now in
    let es = c.self.inside.times.entries in
    let b = c.in-Some.bucket.now in
    let held : lookup (is_at (nat_cmp m.time)) es ≡ Some b = ap (λ (t : ℕ). lookup (is_at (nat_cmp t)) es) (sym c.time.ensures) ∙ sym c.in-Some.ensures.value in
    let less = c.in-Gone.ensures in
    let r = remove_gone m es c.self.invariant.0 b held less.0 (subst (λ (ys : List Message). 0 < length ys) less.1 less.2) in
    let w = c.remove.new.self in
    let put : (c.get_mut.follows.lender w).entries ≡ set_value (is_at (nat_cmp m.time)) es w = (c.get_mut.follows.holds w).0 ∙ ap (λ (t : ℕ). set_value (is_at (nat_cmp t)) es w) c.time.ensures in
    let is : (c.get_mut.follows.lender w).entries ≡ set_value (is_at (nat_cmp m.time)) es (remove_one m b) = put ∙ ap (set_value (is_at (nat_cmp m.time)) es) c.in-Gone.ensures.1 in
    subst (λ (fs : List (ℕ × List Message)). IsParted fs × (c.self.inside.len - 1 ≡ length (all_of fs))) (sym is) (r.parted, omega (arith, r.long, c.self.invariant.1))

pub returns-in-Gone-clause-answer : goal.returns-in-Gone-clause-answer
returns-in-Gone-clause-answer c =
    let m = c.args.message.now in
    let es = c.self.inside.times.entries in
    let b = c.in-Some.bucket.now in
    let held : lookup (is_at (nat_cmp m.time)) es ≡ Some b = ap (λ (t : ℕ). lookup (is_at (nat_cmp t)) es) (sym c.time.ensures) ∙ sym c.in-Some.ensures.value in
    let less = c.in-Gone.ensures in
    let r = remove_gone m es c.self.invariant.0 b held less.0 (subst (λ (ys : List Message). 0 < length ys) less.1 less.2) in
    sym r.among ∙ ap (is_among m) c.self.view_is

pub returns-in-Gone-clause-removed : goal.returns-in-Gone-clause-removed
returns-in-Gone-clause-removed c =
    let m = c.args.message.now in
    let es = c.self.inside.times.entries in
    let b = c.in-Some.bucket.now in
    let held : lookup (is_at (nat_cmp m.time)) es ≡ Some b = ap (λ (t : ℕ). lookup (is_at (nat_cmp t)) es) (sym c.time.ensures) ∙ sym c.in-Some.ensures.value in
    let less = c.in-Gone.ensures in
    let r = remove_gone m es c.self.invariant.0 b held less.0 (subst (λ (ys : List Message). 0 < length ys) less.1 less.2) in
    let w = c.remove.new.self in
    let put : (c.get_mut.follows.lender w).entries ≡ set_value (is_at (nat_cmp m.time)) es w = (c.get_mut.follows.holds w).0 ∙ ap (λ (t : ℕ). set_value (is_at (nat_cmp t)) es w) c.time.ensures in
    let is : (c.get_mut.follows.lender w).entries ≡ set_value (is_at (nat_cmp m.time)) es (remove_one m b) = put ∙ ap (set_value (is_at (nat_cmp m.time)) es) c.in-Gone.ensures.1 in
    ap all_of is ∙ (r.all ∙ ap (remove_one m) c.self.view_is)

pub overflow_sub-self-in-Last : goal.overflow_sub-self-in-Last
overflow_sub-self-in-Last c =
    let m = c.args.message.now in
    let es = c.self.inside.times.entries in
    let b = c.in-Some.bucket.now in
    let held : lookup (is_at (nat_cmp m.time)) es ≡ Some b = ap (λ (t : ℕ). lookup (is_at (nat_cmp t)) es) (sym c.time.ensures) ∙ sym c.in-Some.ensures.value in
    let r = remove_last m es c.self.invariant.0 (held ∙ ap Some c.in-Last.ensures.0) in
    omega (arith, r.long, c.self.invariant.1)

pub invariant_of-self-in-Last : goal.invariant_of-self-in-Last
invariant_of-self-in-Last c =
    let m = c.args.message.now in
    let es = c.self.inside.times.entries in
    let b = c.in-Some.bucket.now in
    let held : lookup (is_at (nat_cmp m.time)) es ≡ Some b = ap (λ (t : ℕ). lookup (is_at (nat_cmp t)) es) (sym c.time.ensures) ∙ sym c.in-Some.ensures.value in
    let r = remove_last m es c.self.invariant.0 (held ∙ ap Some c.in-Last.ensures.0) in
    let w = c.remove.new.self in
    let put : (c.get_mut.follows.lender w).entries ≡ set_value (is_at (nat_cmp m.time)) es w = (c.get_mut.follows.holds w).0 ∙ ap (λ (t : ℕ). set_value (is_at (nat_cmp t)) es w) c.time.ensures in
    let same : (c.get_mut.follows.lender w).entries ≡ es = put ∙ (ap (set_value (is_at (nat_cmp m.time)) es) c.in-Last.ensures.1 ∙ set_same m.time b es held) in
    let is : c.remove-in-Last.new.self.entries ≡ remove_entry (is_at (nat_cmp m.time)) es =
    c.remove-in-Last.ensures.entries ∙ (ap (λ (t : ℕ). remove_entry (is_at (nat_cmp t)) (c.get_mut.follows.lender w).entries) c.time-in-Last.ensures ∙ ap (remove_entry (is_at (nat_cmp m.time))) same) in
    subst (λ (fs : List (ℕ × List Message)). IsParted fs × (c.self.inside.len - 1 ≡ length (all_of fs))) (sym is) (r.parted, omega (arith, r.long, c.self.invariant.1))

pub returns-in-Last-clause-answer : goal.returns-in-Last-clause-answer
returns-in-Last-clause-answer c =
    let m = c.args.message.now in
    let es = c.self.inside.times.entries in
    let b = c.in-Some.bucket.now in
    let held : lookup (is_at (nat_cmp m.time)) es ≡ Some b = ap (λ (t : ℕ). lookup (is_at (nat_cmp t)) es) (sym c.time.ensures) ∙ sym c.in-Some.ensures.value in
    let r = remove_last m es c.self.invariant.0 (held ∙ ap Some c.in-Last.ensures.0) in
    sym r.among ∙ ap (is_among m) c.self.view_is

pub returns-in-Last-clause-removed : goal.returns-in-Last-clause-removed
returns-in-Last-clause-removed c =
    let m = c.args.message.now in
    let es = c.self.inside.times.entries in
    let b = c.in-Some.bucket.now in
    let held : lookup (is_at (nat_cmp m.time)) es ≡ Some b = ap (λ (t : ℕ). lookup (is_at (nat_cmp t)) es) (sym c.time.ensures) ∙ sym c.in-Some.ensures.value in
    let r = remove_last m es c.self.invariant.0 (held ∙ ap Some c.in-Last.ensures.0) in
    let w = c.remove.new.self in
    let put : (c.get_mut.follows.lender w).entries ≡ set_value (is_at (nat_cmp m.time)) es w = (c.get_mut.follows.holds w).0 ∙ ap (λ (t : ℕ). set_value (is_at (nat_cmp t)) es w) c.time.ensures in
    let same : (c.get_mut.follows.lender w).entries ≡ es = put ∙ (ap (set_value (is_at (nat_cmp m.time)) es) c.in-Last.ensures.1 ∙ set_same m.time b es held) in
    let is : c.remove-in-Last.new.self.entries ≡ remove_entry (is_at (nat_cmp m.time)) es =
    c.remove-in-Last.ensures.entries ∙ (ap (λ (t : ℕ). remove_entry (is_at (nat_cmp t)) (c.get_mut.follows.lender w).entries) c.time-in-Last.ensures ∙ ap (remove_entry (is_at (nat_cmp m.time))) same) in
    ap all_of is ∙ (r.all ∙ ap (remove_one m) c.self.view_is)
