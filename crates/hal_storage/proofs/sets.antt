mod Listed
mod Sets
