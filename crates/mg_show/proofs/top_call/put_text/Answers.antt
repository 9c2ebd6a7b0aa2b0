use Rattle.mg_show.proofs.top_call.put_text.Goals as goal

pub returns-in-Reach : goal.returns-in-Reach
returns-in-Reach g c = rw c.in-Reach.is c.put_reach.ensures

pub returns-in-Dot : goal.returns-in-Dot
returns-in-Dot g c = rw c.in-Dot.is c.put_graph.ensures

pub returns-in-DotThread : goal.returns-in-DotThread
returns-in-DotThread g c = rw c.in-DotThread.is c.put_thread_part.ensures

pub returns-in-DotObject : goal.returns-in-DotObject
returns-in-DotObject g c = rw c.in-DotObject.is c.put_object_part.ensures
