use Rattle.std.proofs.Common.{◌∙◌, ap}
use Rattle.std.specs.Path.{path_bytes, path_join}
use Rattle.om_io.proofs.DirLemmas.{join_from_nothing}
use Rattle.om_io.proofs.dir_shelf.DirShelf.path_of.Goals as goal

pub returns : goal.returns
returns g c =
    c.in_ok-push-2.ensures.ok
    ∙ ap (λ base. path_join base c.args.name.now) (c.in_ok-push.ensures.ok
    ∙ ap (λ base. path_join base (path_bytes c.args.self.now.folder)) c.new-path.ensures
    ∙ join_from_nothing (path_bytes c.args.self.now.folder))
