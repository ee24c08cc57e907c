use Rattle.std.proofs.Common.{ap, ◌∙◌}
use Rattle.std.specs.List.{fold}
use Rattle.std.specs.Hash.FoldHasher.{write}
use Rattle.mx_list.specs.Hashed.{hash_of}
use Rattle.mx_list.proofs.hashed.hash_of.Goals as goal

-- src/hashed.rt:51:1
pub returns : goal.returns
unfolding hash_of
returns g c = c.finish.ensures ∙ ap (λ s. s.state) (c.hash.ensures ∙ ap (λ s. fold write s (g.K.Hash.hash_input c.args.key.now)) c.default-state.ensures)
