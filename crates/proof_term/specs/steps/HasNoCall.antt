-- Bodies that call no subtask.
use Rattle.body_lang.specs.BodyTree.{BodyTree, num, input, local, neg, op, choice, total, product, iterate, call}

-- no call stands in the body
abbrev pub HasNoCall : BodyTree → Type 0
HasNoCall (num v) = Unit {0}
HasNoCall (input i) = Unit {0}
HasNoCall (local j) = Unit {0}
HasNoCall (neg a) = HasNoCall a
HasNoCall (op o a b) = HasNoCall a × HasNoCall b
HasNoCall (choice c a b p q) = HasNoCall a × (HasNoCall b × (HasNoCall p × HasNoCall q))
HasNoCall (total a b e) = HasNoCall a × (HasNoCall b × HasNoCall e)
HasNoCall (product a b e) = HasNoCall a × (HasNoCall b × HasNoCall e)
HasNoCall (iterate a b e) = HasNoCall a × (HasNoCall b × HasNoCall e)
HasNoCall (call k out args) = ⊥
