use Rattle.std.proofs.Common.{◌≡◌, ◌∙◌, [], refl, sym, subst, arith, rules}
use Rattle.std.proofs.lemmas.Bool.{false≢true}
use Rattle.std.proofs.lemmas.Result.{err_from_is_err_and}
use Rattle.fy_audit.specs.Reading.{HasRead}
use Rattle.fy_cluster.specs.Replies.{Legal}
use Rattle.fy_c.specs.Resuming.{NotFollowed}
use Rattle.fy_c.proofs.Followed.{begins_legal, no_header, not_read, of_first, read_whole, read_on, refuted}
use Rattle.fy_c.proofs.resuming.follow.Goals as goal

pub returns-in_err-reader-clause-refused : goal.returns-in_err-reader-clause-refused
returns-in_err-reader-clause-refused c =
    let p = err_from_is_err_and c.from_residual.result c.from_residual.ensures.1 in
    rw (p.1, p.2)
    (no_header c.args.cluster.now.setup c.args.audit.now c.in_err-reader.field-0.0
    c.in_err-reader.ensures.first c.in_err-reader.ensures.refused)

pub returns-in-First-clause-refused : goal.returns-in-First-clause-refused
returns-in-First-clause-refused c =
    of_first c.args.cluster.now.setup c.args.audit.now c.in_ok-reader.reader c.in_ok-reader.ensures.begun
    (sym c.version.ensures ∙ c.in-First.is)

pub loop-reader-init : goal.loop-reader-init
loop-reader-init c = (
  subst (λ entries. HasRead c.args.audit.now entries c.in_ok-reader.reader) (sym c.requires) c.in_ok-reader.ensures.begun,
  sym c.version.ensures ∙ c.in-Second.is,
  refl,
  subst (Legal c.args.cluster.now.setup) (sym c.requires) (omega arith, tt),
)

pub returns-in_err-entry-clause-refused : goal.returns-in_err-entry-clause-refused
returns-in_err-entry-clause-refused c =
    let p = err_from_is_err_and c.from_residual-in_err-entry.result
    c.from_residual-in_err-entry.ensures.1 in
    let setup = c.args.cluster.now.setup in
    let (has, second, same, legal) = c.loop-reader.invariant in
    let begins = begins_legal setup c.args.audit.now c.loop-reader.cluster c.loop-reader.reader has
    second same legal in
    rw (p.1, p.2)
    (not_read setup c.args.audit.now c.loop-reader.cluster c.loop-reader.reader
    c.in_err-entry.field-0.0 begins second has.place c.in_err-entry.ensures.stopped)

pub comes_next-requires : goal.comes_next-requires
comes_next-requires c =
    c.in_ok-entry.ensures.read.front.may.at ∙ c.loop-reader.invariant.0.place

pub returns-in_err-comes_next-clause-refused : goal.returns-in_err-comes_next-clause-refused
returns-in_err-comes_next-clause-refused c =
    let p = err_from_is_err_and c.from_residual-in_err-comes_next.result
    c.from_residual-in_err-comes_next.ensures.1 in
    let (has, second, same, legal) = c.loop-reader.invariant in
    rw (p.1, p.2)
    (NotFollowed.no_memory c.loop-reader.cluster.journal c.loop-reader.reader.rest
    (begins_legal c.args.cluster.now.setup c.args.audit.now c.loop-reader.cluster
    c.loop-reader.reader has second same legal))

pub returns-then-not-branch-clause-refuted : goal.returns-then-not-branch-clause-refuted
returns-then-not-branch-clause-refuted c =
    let setup = c.args.cluster.now.setup in
    let (has, second, same, legal) = c.loop-reader.invariant in
    refuted setup c.args.audit.now c.loop-reader.cluster c.in_ok-entry.entry
    c.loop-reader.reader c.next_entry.new.self same
    (begins_legal setup c.args.audit.now c.loop-reader.cluster c.loop-reader.reader has second same
    legal)
    second has.place c.in_ok-entry.ensures.read
    (λ more. false≢true (sym c.if-not-branch.true ∙ c.in_ok-comes_next.ensures.next.1 more))

pub loop-reader-preserved : goal.loop-reader-preserved
loop-reader-preserved c =
    let read = c.in_ok-entry.ensures.read in
    let (has, second, same, legal) = c.loop-reader.invariant in
    read_on c.args.audit.now c.loop-reader.cluster c.comes_next.new.cluster
    c.args.cluster.now.setup c.in_ok-entry.entry c.next_entry.new.self
    (c.an_audit_is_read_entry_by_entry.ensures.more c.args.audit.now c.loop-reader.cluster.journal
    c.in_ok-entry.entry c.loop-reader.reader c.next_entry.new.self has read)
    (read.version ∙ second) same
    (c.in_ok-comes_next.ensures.next.0 c.if-not-branch.false)
    (c.in_ok-comes_next.ensures.entered c.if-not-branch.false)

pub returns-clause-followed : goal.returns-clause-followed
returns-clause-followed c = λ whole.
    let (has, second, same, legal) = c.loop-reader.invariant in
    let none : c.loop-reader.reader.rest ≡ [] = search rules in
    read_whole c.an_audit_is_read_entry_by_entry.ensures.end c.args.cluster.now.setup
    c.args.audit.now c.loop-reader.cluster c.loop-reader.reader has second same legal none
