use Rattle.std.proofs.Common.{◌/◌, ◌<◌, length, sym, ◌∙◌, subst}
use Rattle.core_state.specs.Words.{Shape, notify}
use Rattle.core_state.specs.Counts.{known_key}
use Rattle.core_steps.specs.Table.{view_at}
use Rattle.core_steps.proofs.AnyCore.{has_word}
use Rattle.core_steps.proofs.Inside.{notify_inside, word_fits}
use Rattle.core_steps.proofs.TableSteps.{place_within, word_at}
use Rattle.core_steps.proofs.plain.PlainTable.port_word.Goals as goal

pub touched-requires : goal.touched-requires
touched-requires g c = let p = c.args.self.now in let s = c.places-places.ensures.sound in
    place_within g.C.Course.setting p (notify c.args.row (c.args.port / 40)) _ c.notify.result s (notify_inside g.C.Course.setting p c.args.row (known_key c.args.row (view_at p c.args.worker)) (c.args.port / 40) s c.requires.can.row.low (has_word g.C.Course.setting s.setting (view_at p c.args.worker) (known_key c.args.row (view_at p c.args.worker)) c.args.port c.requires.can.edge)) c.places-places.ensures.shape (c.notify.ensures (length p.blocks))

pub returns-clause-word : goal.returns-clause-word
returns-clause-word g c = let p = c.args.self.now in let s = c.places-places.ensures.sound in
    word_at p (notify c.args.row (c.args.port / 40)) c.touched.result _ c.notify.result (place_within g.C.Course.setting p (notify c.args.row (c.args.port / 40)) _ c.notify.result s (notify_inside g.C.Course.setting p c.args.row (known_key c.args.row (view_at p c.args.worker)) (c.args.port / 40) s c.requires.can.row.low (has_word g.C.Course.setting s.setting (view_at p c.args.worker) (known_key c.args.row (view_at p c.args.worker)) c.args.port c.requires.can.edge)) c.places-places.ensures.shape (c.notify.ensures (length p.blocks))) c.places-places.ensures.shape (c.notify.ensures (length p.blocks)) c.touched.ensures.place c.touched.ensures.found

pub notify-requires-clause-row : goal.notify-requires-clause-row
notify-requires-clause-row g c = let p = c.args.self.now in
    subst (λ (h : Shape). c.args.row < h.rows) (sym (c.places-places.ensures.shape ∙ c.places-places.ensures.sound.shape_is)) c.requires.can.row.low

pub notify-requires-clause-word : goal.notify-requires-clause-word
notify-requires-clause-word g c = let p = c.args.self.now in let s = c.places-places.ensures.sound in
    subst (λ (h : Shape). c.args.port / 40 < h.notify_words) (sym c.places-places.ensures.shape) (word_fits g.C.Course.setting p (known_key c.args.row (view_at p c.args.worker)) (c.args.port / 40) s (has_word g.C.Course.setting s.setting (view_at p c.args.worker) (known_key c.args.row (view_at p c.args.worker)) c.args.port c.requires.can.edge))
