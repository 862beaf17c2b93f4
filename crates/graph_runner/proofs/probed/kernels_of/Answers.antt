use Rattle.std.proofs.Common.{◌≡◌, ◌↔◌, ◌∙◌, ◌<◌, ℕ, ℤ, List, ◌∷◌, [], ◌++◌, All, length, map, vec_capacity, vec_len, sym, subst, ap, arith, length-append}
use Rattle.std.proofs.lemmas.List.Elements.{All-push}
use Rattle.graph_runner.proofs.Chosen.{chosen}
use Rattle.graph_runner.proofs.Taking.{one_taken}
use Rattle.graph_runner.proofs.probed.kernels_of.Goals as goal

pub loop-preserved : goal.loop-preserved
loop-preserved g c =
    let calls = g.Ke.Kernel.calls in
    let notes = g.P.Probe.notes in
    let room : vec_len c.loop.kernels < vec_capacity c.loop.kernels = omega arith in
    let pushed : c.push.new.self.items ≡ c.loop.kernels.items ++ c.probed.result ∷ [] = c.push.ensures.items ∙ chosen c.push.result _ _ (c.push.ensures.succeeds room) in
    record {
      many = omega (arith, ap length pushed, length-append c.loop.kernels.items (c.probed.result ∷ []));
      same_makes = subst (λ ks. All (λ a. g.Ke.Kernel.outcome a ≡ g.Ke.Probed.makes c.args.graph) ks) (sym pushed)
          (All-push (λ a. g.Ke.Kernel.outcome a ≡ g.Ke.Probed.makes c.args.graph) c.loop.kernels.items c.probed.result c.loop.invariant.same_makes c.probed.ensures.makes);
      same_takes = subst (λ ks. All (λ a. (k : ℕ) (lists : List (List ℤ)) → g.Ke.Kernel.fits a k lists ↔ g.Ke.Probed.takes c.args.graph k lists) ks) (sym pushed)
          (All-push (λ a. (k : ℕ) (lists : List (List ℤ)) → g.Ke.Kernel.fits a k lists ↔ g.Ke.Probed.takes c.args.graph k lists) c.loop.kernels.items c.probed.result c.loop.invariant.same_takes c.probed.ensures.takes);
      front =
          ap (λ ks. map calls ks ++ map notes c.remove.new.self.items) pushed ∙ ap (λ ps. map calls (c.loop.kernels.items ++ c.probed.result ∷ []) ++ map notes ps) c.remove.ensures.items
          ∙ one_taken calls notes c.loop.kernels.items c.probed.result c.loop.probes.items (map notes c.args.probes.now.items) c.remove.result (omega arith) c.remove.ensures.value c.probed.ensures.calls c.loop.invariant.front;
      left = omega arith;
      room = omega arith;
      held = omega arith;
    }
