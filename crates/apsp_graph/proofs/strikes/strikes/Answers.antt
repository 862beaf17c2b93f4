use Rattle.std.proofs.Common.{◌≡◌, ◌+◌, ◌-◌, ◌<◌, ◌^◌, ◌∙◌, suc, length, Ok, ap, sym, arith}
use Rattle.std.proofs.lemmas.List.{length-append}
use Rattle.std.proofs.lemmas.List.Elements.{All-push}
use Rattle.apsp_graph.specs.declared.fault.MatrixFault.TheVariants as faults
use Rattle.apsp_graph.specs.Lines.{lines_of, words_of}
use Rattle.apsp_graph.specs.Reading.{strikes_from}
use Rattle.apsp_graph.specs.Steps.{with_front, words_left}
use Rattle.apsp_graph.proofs.ReadingLemmas.{lines_next, lines_end, strikes_skip, strikes_none, strikes_bad, strikes_full, strikes_go_on, stopped, finished}
use Rattle.apsp_graph.proofs.strikes.strikes.Goals as goal

pub loop-line-preserved-in_default-next_word : goal.loop-line-preserved-in_default-next_word
loop-line-preserved-in_default-next_word c =
    let l = c.loop-line in
    let room = 4096 - length l.strikes.items in
    let rest = words_left c.in-Some.after in
    let next = lines_next (lines_of l.at.rest.now) (lines_of c.in-Some.after.rest.now) c.in-Some.line.now c.in-Some.ensures.line in
    record {
      gives = ap (λ v. with_front l.strikes.items (strikes_from c.args.top v room rest)) c.in-Some.ensures.number
          ∙ ap (with_front l.strikes.items) (sym (strikes_skip c.args.top l.at.number room (words_of c.in-Some.line.now) (words_left l.at) rest next c.in_default-next_word.ensures))
          ∙ l.invariant.gives;
      few = l.invariant.few;
      keys = l.invariant.keys;
    }

pub returns-in_default-strike : goal.returns-in_default-strike
returns-in_default-strike c =
    let l = c.loop-line in
    let word = c.in-Some-next_word.field-0 in
    let next = lines_next (lines_of l.at.rest.now) (lines_of c.in-Some.after.rest.now) c.in-Some.line.now c.in-Some.ensures.line in
    stopped l.strikes.items _ _ (faults.Fault l.at.number)
    (strikes_bad c.args.top l.at.number (4096 - length l.strikes.items) word.0.now (words_of c.in-Some.line.now) (words_of word.1.now) (words_left l.at) (words_left c.in-Some.after) next c.in-Some-next_word.ensures c.in_default-strike.ensures.value)
    l.invariant.gives

pub returns-then-len-ge-MOST_STRIKES : goal.returns-then-len-ge-MOST_STRIKES
returns-then-len-ge-MOST_STRIKES c =
    let l = c.loop-line in
    let word = c.in-Some-next_word.field-0 in
    let next = lines_next (lines_of l.at.rest.now) (lines_of c.in-Some.after.rest.now) c.in-Some.line.now c.in-Some.ensures.line in
    let len = c.len.ensures in
    let full : 4096 - length l.strikes.items ≡ 0 = omega (arith, len) in
    stopped l.strikes.items _ _ (faults.Fault l.at.number)
    (strikes_full c.args.top l.at.number (4096 - length l.strikes.items) word.0.now (words_of c.in-Some.line.now) (words_of word.1.now) (words_left l.at) (words_left c.in-Some.after) next c.in-Some-next_word.ensures full)
    l.invariant.gives

pub loop-line-preserved : goal.loop-line-preserved
loop-line-preserved c =
    let l = c.loop-line in
    let s = c.in-Some-strike.found in
    let word = c.in-Some-next_word.field-0 in
    let rest = words_left c.in-Some.after in
    let new = c.push.new.self.items in
    let next = lines_next (lines_of l.at.rest.now) (lines_of c.in-Some.after.rest.now) c.in-Some.line.now c.in-Some.ensures.line in
    let items = c.in_ok-push.ensures.items in
    let len = c.len.ensures in
    let more : length new ≡ length l.strikes.items + 1 = rw items (simp length-append (omega arith)) in
    let some : length l.strikes.items < 4096 = omega (arith, len) in
    let room : 4096 - length l.strikes.items ≡ suc (4096 - length new) = omega (arith, more, some) in
    record {
      gives = ap (λ v. with_front new (strikes_from c.args.top v (4096 - length new) rest)) c.in-Some.ensures.number
          ∙ strikes_go_on c.args.top l.at.number (4096 - length l.strikes.items) (4096 - length new) word.0.now (words_of c.in-Some.line.now) (words_of word.1.now) (words_left l.at) rest s l.strikes.items new _ next c.in-Some-next_word.ensures room c.in-Some-strike.ensures.value items l.invariant.gives;
      few = omega (arith, more, some);
      keys = rw items (All-push (λ s. s.key.0 < 2 ^ 63) l.strikes.items s l.invariant.keys c.in-Some-strike.ensures.key);
    }

pub returns : goal.returns
returns c =
    let l = c.loop-line in
    finished l.strikes.items _ _ (strikes_none c.args.top l.at.number (4096 - length l.strikes.items) (words_left l.at) (lines_end (lines_of l.at.rest.now) c.in_default.ensures.line)) l.invariant.gives
    ∙ ap Ok (sym c.of.ensures)
